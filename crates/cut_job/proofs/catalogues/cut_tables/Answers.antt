use Rattle.std.proofs.Common.{arith}
use Rattle.col_disk.proofs.Moving.{moved_none, moved_join}
use Rattle.catalog_types.specs.declared.catalogue.Table.{Table}
use Rattle.container_cut.proofs.Below.{later_data}
use Rattle.container_cut.proofs.Cuts.{count_more, count_all}
use Rattle.container_cut.proofs.Faults.{blames_among}
use Rattle.container_cut.proofs.Joins.{at_place}
use Rattle.cut_job.specs.Listed.{IsTableBelow, HasLoadable, table_count}
use Rattle.cut_job.specs.Blamed.{IsDamageInTable}
use Rattle.cut_job.proofs.Entries.{tables_more, tables_none, tables_all, table_later, tables_later, table_back, all_push, all_none}
use Rattle.cut_job.proofs.catalogues.cut_tables.Goals as goal

pub loop-t-init : goal.loop-t-init
loop-t-init g c = record {
  cut = tables_none c.args.epoch _ _ c.new-kept.result.items c.new-kept.ensures.items;
  next = omega arith;
  most = c.requires.numbers;
  below = all_none (IsTableBelow c.args.next) c.new-kept.result.items c.new-kept.ensures.items;
  loadable = all_none HasLoadable c.new-kept.result.items c.new-kept.ensures.items;
  few = omega arith;
  moved = moved_none g.D.Disk c.args.disk.now;
}

pub cut_table-requires-clause-below : goal.cut_table-requires-clause-below
cut_table-requires-clause-below g c =
    let i = c.loop-t.t-index in
    table_later c.args.next c.loop-t.free c.t-item.result c.loop-t.invariant.next (at_place (IsTableBelow c.args.next) c.args.tables.now i c.t-item.result c.loop-t-test.true c.t-item.is c.requires.below)

pub cut_table-requires-clause-loadable : goal.cut_table-requires-clause-loadable
cut_table-requires-clause-loadable g c = at_place HasLoadable c.args.tables.now c.loop-t.t-index c.t-item.result c.loop-t-test.true c.t-item.is c.requires.loadable

pub loop-t-preserved : goal.loop-t-preserved
loop-t-preserved g c =
    let ps = c.args.tables.now in
    let i = c.loop-t.t-index in
    let p = c.t-item.result in
    let qs = c.loop-t.kept.items in
    let more = c.add.new.kept.items in
    let q = c.in-Ok.done.table in
    let inv = c.loop-t.invariant in
    let n = c.in-Ok.ensures.next in
    record {
      cut = tables_more g.D.Disk c.args.epoch c.args.next c.loop-t.free ps i p qs more q c.loop-t-test.true c.t-item.is c.in-Ok-add.ensures c.requires.below inv.below inv.moved c.cut_table.ensures.moved inv.cut c.in-Ok.ensures.cut;
      next = omega (arith, inv.next, n.0);
      most = n.1;
      below = all_push (IsTableBelow c.in-Ok.done.next) qs more q c.in-Ok-add.ensures (tables_later c.loop-t.free c.in-Ok.done.next qs n.0 inv.below) c.in-Ok.ensures.below;
      loadable = all_push HasLoadable qs more q c.in-Ok-add.ensures inv.loadable c.in-Ok.ensures.loadable;
      few = count_more table_count ps i p c.args.next c.loop-t.free c.in-Ok.done.next c.loop-t-test.true c.t-item.is inv.few c.in-Ok.ensures.few;
      moved = moved_join g.D.Disk inv.moved (later_data g.D.Disk c.args.next c.loop-t.free inv.next c.cut_table.ensures.moved);
    }

pub returns-clause-cut : goal.returns-clause-cut
returns-clause-cut g c = tables_all c.args.epoch c.args.tables.now c.loop-t.t-index c.loop-t.kept.items _ _ c.loop-t-test.false c.loop-t.invariant.cut

pub returns-clause-few : goal.returns-clause-few
returns-clause-few g c = count_all table_count c.args.tables.now c.loop-t.t-index c.args.next c.loop-t.free c.loop-t-test.false c.loop-t.invariant.few

pub returns-in-Err-clause-blamed : goal.returns-in-Err-clause-blamed
returns-in-Err-clause-blamed g c =
    blames_among g.D.Disk (λ m q (p : Table). IsDamageInTable m q p) (IsTableBelow c.args.next) c.args.next c.args.tables.now c.loop-t.t-index c.t-item.result c.in-Err.fault c.loop-t-test.true c.t-item.is
    (λ m l q y same low d. table_back m l c.args.next q y same low d) c.requires.below c.loop-t.invariant.moved c.in-Err.ensures.blamed

pub returns-in-Err-clause-moved : goal.returns-in-Err-clause-moved
returns-in-Err-clause-moved g c = moved_join g.D.Disk c.loop-t.invariant.moved (later_data g.D.Disk c.args.next c.loop-t.free c.loop-t.invariant.next c.cut_table.ensures.moved)

pub returns-in-Err-add-clause-moved : goal.returns-in-Err-add-clause-moved
returns-in-Err-add-clause-moved g c = moved_join g.D.Disk c.loop-t.invariant.moved (later_data g.D.Disk c.args.next c.loop-t.free c.loop-t.invariant.next c.cut_table.ensures.moved)
