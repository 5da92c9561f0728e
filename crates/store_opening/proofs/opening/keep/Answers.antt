use Rattle.std.proofs.Common.{sym, subst, map}
use Rattle.col_disk.proofs.Moving.{moved_join, moved_read}
use Rattle.store_commit.specs.Seen.{Seen, Stands}
use Rattle.table_store.specs.Held.{projections_of}
use Rattle.store_opening.proofs.Blames.{fault_blamed}
use Rattle.store_opening.proofs.Quieted.{kept_stands, looked_reopens, tidied_reopens}
use Rattle.store_opening.proofs.Started.{kept_numbers}
use Rattle.store_opening.proofs.There.{where_always}
use Rattle.store_opening.proofs.opening.keep.Goals as goal

pub load_root-requires : goal.load_root-requires
load_root-requires g c = c.requires.body.valid

pub returns-in-Ok-tidy-clause-stands : goal.returns-in-Ok-tidy-clause-stands
returns-in-Ok-tidy-clause-stands g c = λ m d quiet.
    let stores = map projections_of c.in-Ok.tables.items in
    subst (λ (s : Seen). Stands g.D.Disk s c.tidy.new.disk d) (sym c.of.ensures)
    (kept_stands g.D.Disk {mid = c.load_root.new.disk} c.args.version c.args.catalogue stores d m c.requires.body.below c.load_root.ensures.looks c.tidy.ensures.moved
    (c.a_loaded_folder_is_the_database.ensures m c.args.catalogue stores d c.requires.body.valid c.requires.whole quiet.is_cut (c.in-Ok.ensures.loaded m quiet.quiet.told_is)) quiet)

pub returns-in-Ok-tidy-clause-numbers : goal.returns-in-Ok-tidy-clause-numbers
returns-in-Ok-tidy-clause-numbers g c = λ m d quiet. kept_numbers c.args.catalogue c.of.result (map projections_of c.in-Ok.tables.items) c.of.ensures

pub returns-in-Ok-tidy-clause-any_moment : goal.returns-in-Ok-tidy-clause-any_moment
returns-in-Ok-tidy-clause-any_moment g c = λ m d quiet. tidied_reopens g.D.Disk {mid = c.load_root.new.disk} c.args.version c.args.catalogue d m c.load_root.ensures.looks c.tidy.ensures.moved quiet

pub returns-in-Err-tidy-clause-any_moment : goal.returns-in-Err-tidy-clause-any_moment
returns-in-Err-tidy-clause-any_moment g c = λ m d quiet. tidied_reopens g.D.Disk {mid = c.load_root.new.disk} c.args.version c.args.catalogue d m c.load_root.ensures.looks c.tidy.ensures.moved quiet

pub returns-in-Err-clause-any_moment : goal.returns-in-Err-clause-any_moment
returns-in-Err-clause-any_moment g c = λ m d quiet. looked_reopens g.D.Disk c.args.version c.args.catalogue d m c.load_root.ensures.looks quiet

pub returns-in-Err-clause-blamed : goal.returns-in-Err-clause-blamed
returns-in-Err-clause-blamed g c = c.in-Err.ensures.blamed

pub returns-in-Err-tidy-clause-blamed : goal.returns-in-Err-tidy-clause-blamed
returns-in-Err-tidy-clause-blamed g c = fault_blamed _ c.in-Err-tidy.fault c.from.result c.from.ensures

pub returns-in-Err-clause-untouched : goal.returns-in-Err-clause-untouched
returns-in-Err-clause-untouched g c = where_always _ c.in-Err.fault c.load_root.ensures.looks

pub returns-in-Err-tidy-clause-untouched : goal.returns-in-Err-tidy-clause-untouched
returns-in-Err-tidy-clause-untouched g c = fault_blamed _ c.in-Err-tidy.fault c.from.result c.from.ensures

pub returns-in-Ok-tidy-clause-unwritten : goal.returns-in-Ok-tidy-clause-unwritten
returns-in-Ok-tidy-clause-unwritten g c = moved_join g.D.Disk (moved_read g.D.Disk c.load_root.ensures.looks) c.tidy.ensures.moved

pub returns-in-Err-tidy-clause-unwritten : goal.returns-in-Err-tidy-clause-unwritten
returns-in-Err-tidy-clause-unwritten g c = moved_join g.D.Disk (moved_read g.D.Disk c.load_root.ensures.looks) c.tidy.ensures.moved

pub returns-in-Err-clause-unwritten : goal.returns-in-Err-clause-unwritten
returns-in-Err-clause-unwritten g c = moved_read g.D.Disk c.load_root.ensures.looks
