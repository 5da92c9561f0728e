use Rattle.std.specs.Prelude.{sum_by}
use Rattle.std.proofs.Common.{◌≤◌, ◌+◌, List, length, ap, sym, subst, arith}
use Rattle.std.specs.List.{All}
use Rattle.std.proofs.lemmas.List.Elements.{All-nil}
use Rattle.col_disk.proofs.Moving.{moved_none, moved_join}
use Rattle.catalog_types.specs.Numbers.{container_count}
use Rattle.catalog_types.specs.declared.catalogue.Container.{Container}
use Rattle.ros_container.specs.Encodings.{written_of}
use Rattle.container_writer.specs.Writing.{listed}
use Rattle.container_cut.specs.Listed.{IsBelow}
use Rattle.container_cut.specs.Cutting.{CutsContainers, Between}
use Rattle.container_cut.specs.Blamed.{IsDamageOf, IsDamageAmong, Blames}
use Rattle.container_cut.proofs.Below.{container_later, later_data}
use Rattle.container_cut.proofs.Cuts.{count_kept, count_more, count_all}
use Rattle.container_cut.proofs.Faults.{damage_back, blames_among}
use Rattle.container_cut.proofs.Joins.{containers_more, containers_none, containers_all, item, item_is, at_place, below_more}
use Rattle.container_cut.proofs.containers.cut_containers.Goals as goal

pub loop-container-init : goal.loop-container-init
loop-container-init g c = record {
  cut = containers_none (written_of c.args.shape.now) c.args.epoch _ _ c.new-kept.result.items c.new-kept.ensures.items;
  next = omega arith;
  most = c.requires.numbers;
  few = omega arith;
  count = omega (arith, ap length c.new-kept.ensures.items);
  upto = omega arith;
  below = subst (All (IsBelow c.args.next c.args.shape.now.columns)) (sym c.new-kept.ensures.items) (All-nil (IsBelow c.args.next c.args.shape.now.columns));
  moved = moved_none g.D.Disk c.args.disk.now;
}

pub cut_container-requires-clause-below : goal.cut_container-requires-clause-below
cut_container-requires-clause-below g c =
    let ks = c.as_slice-containers.result.now in
    let i = c.loop-container.container-index in
    let columns = c.args.shape.now.columns in
    let below : All (IsBelow c.args.next columns) ks = subst (All (IsBelow c.args.next columns)) (sym c.as_slice-containers.ensures) c.requires.below in
    container_later c.args.next c.loop-container.free columns (item ks i) c.loop-container.invariant.next
    (at_place (IsBelow c.args.next columns) ks i (item ks i) c.loop-container-test.true (item_is ks i c.loop-container-test.true) below)

pub loop-container-preserved : goal.loop-container-preserved
loop-container-preserved g c =
    let p = c.args.shape.now in
    let ks = c.as_slice-containers.result.now in
    let i = c.loop-container.container-index in
    let k = item ks i in
    let is = item_is ks i c.loop-container-test.true in
    let columns = p.columns in
    let below : All (IsBelow c.args.next columns) ks = subst (All (IsBelow c.args.next columns)) (sym c.as_slice-containers.ensures) c.requires.below in
    let inv = c.loop-container.invariant in
    let n = c.in-Ok.ensures.next in
    record {
      cut = containers_more g.D.Disk p c.args.epoch c.args.next c.loop-container.free ks i k c.loop-container.kept.items c.add.new.kept.items (listed c.in-Ok.done.container)
          c.loop-container-test.true is c.in-Ok-add.ensures below inv.below inv.moved c.cut_container.ensures.moved inv.cut c.in-Ok.ensures.cut;
      next = omega (arith, inv.next, n.0);
      most = n.1;
      few = count_more container_count ks i k c.args.next c.loop-container.free c.in-Ok.done.next c.loop-container-test.true is inv.few c.in-Ok.ensures.few;
      count = count_kept c.loop-container.kept.items c.in-Ok.done.container c.add.new.kept.items i c.in-Ok-add.ensures inv.count;
      upto = omega (arith, c.loop-container-test.true);
      below = below_more c.loop-container.free c.in-Ok.done.next columns c.loop-container.kept.items (listed c.in-Ok.done.container) c.add.new.kept.items n.0 c.in-Ok-add.ensures inv.below c.in-Ok.ensures.below;
      moved = moved_join g.D.Disk inv.moved (later_data g.D.Disk c.args.next c.loop-container.free inv.next c.cut_container.ensures.moved);
    }

pub returns-clause-cut : goal.returns-clause-cut
returns-clause-cut g c =
    let es = written_of c.args.shape.now in
    subst (λ (ks : List Container). Between (CutsContainers es c.args.epoch ks c.loop-container.kept.items) (g.D.Disk.holds c.args.disk.now) (g.D.Disk.holds c.loop-container.disk)) c.as_slice-containers.ensures
    (containers_all es c.args.epoch c.as_slice-containers.result.now c.loop-container.container-index c.loop-container.kept.items _ _ c.loop-container-test.false c.loop-container.invariant.cut)

pub returns-clause-few : goal.returns-clause-few
returns-clause-few g c =
    let columns = c.args.shape.now.columns in
    subst (λ (ks : List Container). c.loop-container.free ≤ c.args.next + sum_by container_count ks) c.as_slice-containers.ensures
    (count_all container_count c.as_slice-containers.result.now c.loop-container.container-index c.args.next c.loop-container.free c.loop-container-test.false c.loop-container.invariant.few)

pub returns-clause-count : goal.returns-clause-count
returns-clause-count g c = omega (arith, c.loop-container.invariant.count, c.loop-container.invariant.upto, ap length c.as_slice-containers.ensures)

pub returns-in-Err-clause-blamed : goal.returns-in-Err-clause-blamed
returns-in-Err-clause-blamed g c =
    let p = c.args.shape.now in
    let ks = c.as_slice-containers.result.now in
    let i = c.loop-container.container-index in
    let k = item ks i in
    let columns = p.columns in
    let below : All (IsBelow c.args.next columns) ks = subst (All (IsBelow c.args.next columns)) (sym c.as_slice-containers.ensures) c.requires.below in
    subst (λ (js : List Container). Blames (λ m q. IsDamageAmong p m q js) (g.D.Disk.holds c.args.disk.now) c.in-Err.fault) c.as_slice-containers.ensures
    (blames_among g.D.Disk (IsDamageOf p) (IsBelow c.args.next columns) c.args.next ks i k c.in-Err.fault c.loop-container-test.true (item_is ks i c.loop-container-test.true)
    (λ m l q y same low d. damage_back m l c.args.next p q y same low d) below c.loop-container.invariant.moved c.in-Err.ensures.blamed)

pub returns-in-Err-clause-moved : goal.returns-in-Err-clause-moved
returns-in-Err-clause-moved g c =
    moved_join g.D.Disk c.loop-container.invariant.moved (later_data g.D.Disk c.args.next c.loop-container.free c.loop-container.invariant.next c.cut_container.ensures.moved)

pub returns-in-Err-add-clause-moved : goal.returns-in-Err-add-clause-moved
returns-in-Err-add-clause-moved g c =
    moved_join g.D.Disk c.loop-container.invariant.moved (later_data g.D.Disk c.args.next c.loop-container.free c.loop-container.invariant.next c.cut_container.ensures.moved)
