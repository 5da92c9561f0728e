use Rattle.std.proofs.Common.{◌<◌, ◌-◌, rules, arith, sym, subst, map, inl, inr}
use Rattle.std.specs.Prelude.{Option}
use Rattle.common_laws.specs.Maps.{Contents}
use Rattle.col_disk.proofs.Moving.{moved_join, moved_read}
use Rattle.store_commit.specs.Seen.{Seen, Stands}
use Rattle.table_store.specs.Held.{projections_of}
use Rattle.store_opening.specs.Opening.{BlamesListed}
use Rattle.store_opening.proofs.Blames.{cut_blamed}
use Rattle.store_opening.proofs.There.{where_always}
use Rattle.store_opening.proofs.Quieted.{looked_reopens}
use Rattle.store_opening.proofs.Recovered.{cut_leaves, again_leaves, settled_stands, settled_leaves}
use Rattle.store_opening.proofs.Started.{cut_numbers}
use Rattle.store_opening.proofs.opening.recover.Goals as goal

pub returns-in-Err-clause-any_moment : goal.returns-in-Err-clause-any_moment
returns-in-Err-clause-any_moment g c = λ m d quiet. looked_reopens g.D.Disk c.args.version c.args.catalogue d m c.load_root.ensures.looks quiet

pub returns-in-Err-cut_root-clause-any_moment : goal.returns-in-Err-cut_root-clause-any_moment
returns-in-Err-cut_root-clause-any_moment g c = λ m d quiet.
    cut_leaves g.D.Disk {read = c.load_root.new.disk} c.args.version c.args.catalogue d m c.requires.body.valid c.load_root.ensures.looks c.cut_root.ensures.moved quiet

pub returns-in-Err-Disk-clause-any_moment : goal.returns-in-Err-Disk-clause-any_moment
returns-in-Err-Disk-clause-any_moment g c = λ m d quiet.
    again_leaves g.D.Disk {read = c.load_root.new.disk} {now = c.cut_root.new.disk} c.args.version c.args.catalogue c.in-Ok-cut_root.root d m c.requires.body.valid c.load_root.ensures.looks c.cut_root.ensures.moved
    c.in-Ok-cut_root.ensures.cut c.load_root-2.ensures.looks quiet

pub returns-in-Err-load_root : goal.returns-in-Err-load_root
returns-in-Err-load_root g c = record {
  stands = tt;
  numbers = tt;
  any_moment = λ m d quiet.
      again_leaves g.D.Disk {read = c.load_root.new.disk} {now = c.cut_root.new.disk} c.args.version c.args.catalogue c.in-Ok-cut_root.root d m c.requires.body.valid c.load_root.ensures.looks c.cut_root.ensures.moved
      c.in-Ok-cut_root.ensures.cut c.load_root-2.ensures.looks quiet;
  there = tt;
  blamed = tt;
  untouched = tt;
  cause = record { later = omega (arith, c.load_root.ensures.cause.later, c.cut_root.ensures.cause.later, c.load_root-2.ensures.cause.later); failed = search rules };
}

pub returns-in-Ok-settle_listed-clause-stands : goal.returns-in-Ok-settle_listed-clause-stands
returns-in-Ok-settle_listed-clause-stands g c = λ m d quiet.
    let root = c.in-Ok-cut_root.root in
    let later : c.args.version < root.next - 1 = omega (arith, c.requires.body.below, c.in-Ok-cut_root.ensures.next) in
    let below : root.next - 1 < root.next = omega (arith, c.in-Ok-cut_root.ensures.next) in
    subst (λ (s : Seen). Stands g.D.Disk s c.settle_listed.new.disk d) (sym c.of.ensures)
    (settled_stands g.D.Disk {read = c.load_root.new.disk} {now = c.cut_root.new.disk} {again = c.load_root-2.new.disk} c.a_loaded_cut_is_the_database.ensures c.args.version (root.next - 1) c.args.catalogue root
    (map projections_of c.in-Ok-load_root.tables.items) d m c.in-Ok-settle_listed.field-0 c.requires.body.valid later below c.load_root.ensures.looks c.cut_root.ensures.moved c.in-Ok-cut_root.ensures.cut
    c.in-Ok-load_root.ensures.loaded c.load_root-2.ensures.looks c.in-Ok-settle_listed.ensures.replaces quiet)

pub returns-in-Ok-settle_listed-clause-numbers : goal.returns-in-Ok-settle_listed-clause-numbers
returns-in-Ok-settle_listed-clause-numbers g c = λ m d quiet.
    cut_numbers g.D.Disk {read = c.load_root.new.disk} {now = c.cut_root.new.disk} c.args.version c.args.catalogue c.in-Ok-cut_root.root c.of.result (map projections_of c.in-Ok-load_root.tables.items) d m c.of.ensures
    c.in-Ok-cut_root.ensures.next c.in-Ok-cut_root.ensures.few c.requires.body.valid c.load_root.ensures.looks c.cut_root.ensures.moved c.in-Ok-cut_root.ensures.cut quiet

pub returns-in-Ok-settle_listed-clause-any_moment : goal.returns-in-Ok-settle_listed-clause-any_moment
returns-in-Ok-settle_listed-clause-any_moment g c = λ m d quiet.
    let root = c.in-Ok-cut_root.root in
    let later : c.args.version < root.next - 1 = omega (arith, c.requires.body.below, c.in-Ok-cut_root.ensures.next) in
    settled_leaves g.D.Disk {read = c.load_root.new.disk} {now = c.cut_root.new.disk} {again = c.load_root-2.new.disk} c.a_cut_reopens.ensures c.args.version (root.next - 1) c.args.catalogue root d m c.settle_listed.result
    c.requires.body.valid later c.load_root.ensures.looks c.cut_root.ensures.moved c.in-Ok-cut_root.ensures.cut c.load_root-2.ensures.looks c.settle_listed.ensures.replaces quiet

pub returns-clause-any_moment : goal.returns-clause-any_moment
returns-clause-any_moment g c = λ m d quiet.
    let root = c.in-Ok-cut_root.root in
    let later : c.args.version < root.next - 1 = omega (arith, c.requires.body.below, c.in-Ok-cut_root.ensures.next) in
    settled_leaves g.D.Disk {read = c.load_root.new.disk} {now = c.cut_root.new.disk} {again = c.load_root-2.new.disk} c.a_cut_reopens.ensures c.args.version (root.next - 1) c.args.catalogue root d m c.settle_listed.result
    c.requires.body.valid later c.load_root.ensures.looks c.cut_root.ensures.moved c.in-Ok-cut_root.ensures.cut c.load_root-2.ensures.looks c.settle_listed.ensures.replaces quiet

pub load_root-requires : goal.load_root-requires
load_root-requires g c = c.requires.body.valid

pub returns-in-Err-clause-untouched : goal.returns-in-Err-clause-untouched
returns-in-Err-clause-untouched g c = where_always _ c.in-Err.fault (inl c.load_root.ensures.looks)

pub returns-in-Err-cut_root-clause-blamed : goal.returns-in-Err-cut_root-clause-blamed
returns-in-Err-cut_root-clause-blamed g c =
    subst (λ (holds : Option Contents). BlamesListed c.args.catalogue holds c.in-Err-cut_root.fault) c.load_root.ensures.looks.contents
    (cut_blamed c.args.catalogue (g.D.Disk.holds c.load_root.new.disk) c.in-Err-cut_root.fault c.requires.past c.in-Err-cut_root.ensures.blamed)

pub returns-in-Err-cut_root-clause-untouched : goal.returns-in-Err-cut_root-clause-untouched
returns-in-Err-cut_root-clause-untouched g c =
    where_always _ c.in-Err-cut_root.fault (inr (record { past = c.requires.past; moved = moved_join g.D.Disk (moved_read g.D.Disk c.load_root.ensures.looks) c.cut_root.ensures.moved }))
