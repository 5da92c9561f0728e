use Rattle.catalog_types.specs.Blank.{blank_container as blank}
use Rattle.std.proofs.Common.{◌≡◌, get_or, rules, arith}
use Rattle.std.proofs.lemmas.List.{get_or_default}
use Rattle.col_disk.proofs.Moving.{moved_join, moved_none}
use Rattle.ros_container.specs.Encodings.{written_of}
use Rattle.moveout_job.proofs.Renewed.{beside_within, later_data, each_none, turn, entry_more, each_all}
use Rattle.moveout_job.proofs.Vectors.{vectors_all, vectors_turn}
use Rattle.moveout_job.proofs.remarking.mark_each.Goals as goal

pub loop-i-init : goal.loop-i-init
loop-i-init g c = record {
  held = rw c.new-out.ensures.items (each_none (written_of c.args.p.now.stored.entry) c.args.next (g.D.Disk.holds c.args.disk.now));
  each = rw c.new-out.ensures.items tt;
  vectors = λ m told. rw c.new-out.ensures.items tt;
  next = omega arith;
  upto = omega arith;
  moved = moved_none g.D.Disk c.args.disk.now;
}

pub vector-requires : goal.vector-requires
vector-requires g c =
    let shown : c.as_slice-containers.result.now ≡ c.args.p.now.stored.entry.containers = search rules in
    beside_within c.args.p.now.stored c.as_slice-containers.result.now c.loop-i.i shown c.entry.ensures.sound c.loop-i-test.true

pub fresh_marks-requires : goal.fresh_marks-requires
fresh_marks-requires g c =
    let shown : c.as_slice-containers.result.now ≡ c.args.p.now.stored.entry.containers = search rules in
    beside_within c.args.p.now.stored c.as_slice-containers.result.now c.loop-i.i shown c.entry.ensures.sound c.loop-i-test.true

pub returns-in-Err-clause-moved : goal.returns-in-Err-clause-moved
returns-in-Err-clause-moved g c = moved_join g.D.Disk c.loop-i.invariant.moved (later_data g.D.Disk c.args.next c.loop-i.after c.loop-i.invariant.next c.mark_one.ensures.moved)

pub returns-in-Err-add-clause-moved : goal.returns-in-Err-add-clause-moved
returns-in-Err-add-clause-moved g c = moved_join g.D.Disk c.loop-i.invariant.moved (later_data g.D.Disk c.args.next c.loop-i.after c.loop-i.invariant.next c.mark_one.ensures.moved)

pub loop-i-preserved : goal.loop-i-preserved
loop-i-preserved g c =
    let p = c.args.p.now.stored in
    let ks = c.as_slice-containers.result.now in
    let i = c.loop-i.i in
    let next = c.args.next in
    let after = c.loop-i.after in
    let end = c.in-Ok.marked.next in
    let k = get_or ks i blank in
    let j = c.in-Ok.marked.entry in
    let shown : ks ≡ p.entry.containers = search rules in
    let within = beside_within p ks i shown c.entry.ensures.sound c.loop-i-test.true in
    let k_is : k ≡ get_or ks i k = get_or_default ks i blank k c.loop-i-test.true in
    record {
      held = turn g.D.Disk (written_of p.entry) next after end i ks p.entry.containers c.loop-i.out.items c.add.new.containers.items p.beside k j c.vector.result.now c.fresh_marks.result.now shown c.loop-i-test.true within k_is c.vector.ensures
          c.fresh_marks.ensures c.in-Ok-add.ensures c.loop-i.invariant.next c.in-Ok.ensures.next c.loop-i.invariant.moved c.mark_one.ensures.moved c.loop-i.invariant.held c.in-Ok.ensures.held;
      each = entry_more next after end i ks p.entry.containers c.loop-i.out.items c.add.new.containers.items k j shown c.loop-i-test.true k_is c.in-Ok-add.ensures c.loop-i.invariant.next c.in-Ok.ensures.next c.loop-i.invariant.each c.in-Ok.ensures.entry;
      vectors = vectors_turn g.D.Disk after end i ks p.entry.containers c.loop-i.out.items c.add.new.containers.items k j shown c.loop-i-test.true k_is c.in-Ok-add.ensures c.in-Ok.ensures.next c.mark_one.ensures.moved c.loop-i.invariant.vectors
          c.in-Ok.ensures.vector;
      next = let one = c.in-Ok.ensures.next in let was = c.loop-i.invariant.next in omega (arith, one, was);
      upto = let one = c.in-Ok.ensures.upto in let was = c.loop-i.invariant.upto in omega (arith, one, was);
      moved = moved_join g.D.Disk c.loop-i.invariant.moved (later_data g.D.Disk next after c.loop-i.invariant.next c.mark_one.ensures.moved);
    }

pub returns-clause-held : goal.returns-clause-held
returns-clause-held g c =
    let p = c.args.p.now.stored in
    let shown : c.as_slice-containers.result.now ≡ p.entry.containers = search rules in
    each_all (written_of p.entry) c.args.next c.loop-i.after c.loop-i.i c.as_slice-containers.result.now c.loop-i.out.items p (g.D.Disk.holds c.args.disk.now) (g.D.Disk.holds c.loop-i.disk) shown c.entry.ensures.sound c.loop-i-test.false
    c.loop-i.invariant.held

pub returns-clause-vectors : goal.returns-clause-vectors
returns-clause-vectors g c =
    let shown : c.as_slice-containers.result.now ≡ c.args.p.now.stored.entry.containers = search rules in
    vectors_all g.D.Disk c.loop-i.after c.loop-i.i c.as_slice-containers.result.now c.args.p.now.stored.entry.containers c.loop-i.out.items shown c.loop-i-test.false c.loop-i.invariant.vectors
