use Rattle.std.proofs.Common.{arith}
use Rattle.col_disk.proofs.Moving.{moved_none, moved_join}
use Rattle.catalog_types.specs.Numbers.{number_count}
use Rattle.catalog_types.specs.declared.catalogue.Projection.{Projection}
use Rattle.proj_store.specs.Sound.{IsLoadable}
use Rattle.container_cut.specs.Listed.{IsListedBelow}
use Rattle.container_cut.specs.Blamed.{IsDamageIn}
use Rattle.container_cut.proofs.Below.{entry_later, entries_later, later_data}
use Rattle.container_cut.proofs.Cuts.{count_more, count_all}
use Rattle.container_cut.proofs.Faults.{entry_back, blames_among}
use Rattle.container_cut.proofs.Joins.{at_place}
use Rattle.cut_job.proofs.Entries.{projections_more, projections_none, projections_all, all_push, all_none}
use Rattle.cut_job.proofs.projections.cut_projections.Goals as goal

pub loop-p-init : goal.loop-p-init
loop-p-init g c = record {
  cut = projections_none c.args.epoch _ _ c.new-kept.result.items c.new-kept.ensures.items;
  next = omega arith;
  most = c.requires.numbers;
  below = all_none (IsListedBelow c.args.next) c.new-kept.result.items c.new-kept.ensures.items;
  loadable = all_none IsLoadable c.new-kept.result.items c.new-kept.ensures.items;
  few = omega arith;
  moved = moved_none g.D.Disk c.args.disk.now;
}

pub cut_projection-requires-clause-below : goal.cut_projection-requires-clause-below
cut_projection-requires-clause-below g c =
    let i = c.loop-p.p-index in
    entry_later c.args.next c.loop-p.free c.p-item.result c.loop-p.invariant.next (at_place (IsListedBelow c.args.next) c.args.projections.now i c.p-item.result c.loop-p-test.true c.p-item.is c.requires.below)

pub cut_projection-requires-clause-loadable : goal.cut_projection-requires-clause-loadable
cut_projection-requires-clause-loadable g c = at_place IsLoadable c.args.projections.now c.loop-p.p-index c.p-item.result c.loop-p-test.true c.p-item.is c.requires.loadable

pub loop-p-preserved : goal.loop-p-preserved
loop-p-preserved g c =
    let ps = c.args.projections.now in
    let i = c.loop-p.p-index in
    let p = c.p-item.result in
    let qs = c.loop-p.kept.items in
    let more = c.add.new.kept.items in
    let q = c.in-Ok.done.entry in
    let inv = c.loop-p.invariant in
    let n = c.in-Ok.ensures.next in
    record {
      cut = projections_more g.D.Disk c.args.epoch c.args.next c.loop-p.free ps i p qs more q c.loop-p-test.true c.p-item.is c.in-Ok-add.ensures c.requires.below inv.below inv.moved c.cut_projection.ensures.moved inv.cut c.in-Ok.ensures.cut;
      next = omega (arith, inv.next, n.0);
      most = n.1;
      below = all_push (IsListedBelow c.in-Ok.done.next) qs more q c.in-Ok-add.ensures (entries_later c.loop-p.free c.in-Ok.done.next qs n.0 inv.below) c.in-Ok.ensures.below;
      loadable = all_push IsLoadable qs more q c.in-Ok-add.ensures inv.loadable c.in-Ok.ensures.loadable;
      few = count_more number_count ps i p c.args.next c.loop-p.free c.in-Ok.done.next c.loop-p-test.true c.p-item.is inv.few c.in-Ok.ensures.few;
      moved = moved_join g.D.Disk inv.moved (later_data g.D.Disk c.args.next c.loop-p.free inv.next c.cut_projection.ensures.moved);
    }

pub returns-clause-cut : goal.returns-clause-cut
returns-clause-cut g c = projections_all c.args.epoch c.args.projections.now c.loop-p.p-index c.loop-p.kept.items _ _ c.loop-p-test.false c.loop-p.invariant.cut

pub returns-clause-few : goal.returns-clause-few
returns-clause-few g c = count_all number_count c.args.projections.now c.loop-p.p-index c.args.next c.loop-p.free c.loop-p-test.false c.loop-p.invariant.few

pub returns-in-Err-clause-blamed : goal.returns-in-Err-clause-blamed
returns-in-Err-clause-blamed g c =
    blames_among g.D.Disk (λ m q (p : Projection). IsDamageIn m q p) (IsListedBelow c.args.next) c.args.next c.args.projections.now c.loop-p.p-index c.p-item.result c.in-Err.fault c.loop-p-test.true c.p-item.is
    (λ m l q y same low d. entry_back m l c.args.next q y same low d) c.requires.below c.loop-p.invariant.moved c.in-Err.ensures.blamed

pub returns-in-Err-clause-moved : goal.returns-in-Err-clause-moved
returns-in-Err-clause-moved g c = moved_join g.D.Disk c.loop-p.invariant.moved (later_data g.D.Disk c.args.next c.loop-p.free c.loop-p.invariant.next c.cut_projection.ensures.moved)

pub returns-in-Err-add-clause-moved : goal.returns-in-Err-add-clause-moved
returns-in-Err-add-clause-moved g c = moved_join g.D.Disk c.loop-p.invariant.moved (later_data g.D.Disk c.args.next c.loop-p.free c.loop-p.invariant.next c.cut_projection.ensures.moved)
