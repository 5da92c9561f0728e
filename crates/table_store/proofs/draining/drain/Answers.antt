use Rattle.std.proofs.Common.{arith}
use Rattle.col_disk.proofs.Moving.{moved_join, moved_none}
use Rattle.table_store.proofs.Drained.{draft_first, draft_of_first}
use Rattle.table_store.proofs.draining.drain.Goals as goal

pub returns-in-Err-clause-moved : goal.returns-in-Err-clause-moved
returns-in-Err-clause-moved g c = moved_none g.D.Disk c.args.disk.now

pub loop-table-init : goal.loop-table-init
loop-table-init g c = record {
  draft = draft_first c.args.store.now c.root.result.now (record { root = c.in-Ok.root; moved = c.new.result }) c.root.ensures.root c.root.ensures.valid c.root.ensures.entries c.in-Ok.ensures c.new.ensures.items;
  goes_on = λ m d told of. (m, told, of);
  moved = moved_none g.D.Disk c.args.disk.now;
  count = omega arith;
}

pub returns-in-Err-move_table-clause-unblamed : goal.returns-in-Err-move_table-clause-unblamed
returns-in-Err-move_table-clause-unblamed g c = λ m n e was now are sound.
    let of = draft_of_first c.args.store.now c.root.result.now (record { root = c.in-Ok.root; moved = c.new.result }) m e c.root.ensures.root c.in-Ok.ensures c.new.ensures.items are sound in
    let (k, told, there) = c.loop-table.invariant.goes_on m e was of in
    c.in-Err-move_table.ensures.unblamed k n e told now there

pub returns-in-Err-move_table-clause-moved : goal.returns-in-Err-move_table-clause-moved
returns-in-Err-move_table-clause-moved g c = moved_join g.D.Disk c.loop-table.invariant.moved c.move_table.ensures.moved

pub loop-table-preserved : goal.loop-table-preserved
loop-table-preserved g c = record {
  draft = c.in-Ok-move_table.ensures.draft;
  goes_on = λ m d told of. let (k, there, over) = c.loop-table.invariant.goes_on m d told of in c.in-Ok-move_table.ensures.goes_on k d there over;
  moved = moved_join g.D.Disk c.loop-table.invariant.moved c.move_table.ensures.moved;
  count = omega (arith, c.loop-table.invariant.count, c.move_table.ensures.cause.later);
}

pub returns-clause-goes_on : goal.returns-clause-goes_on
returns-clause-goes_on g c = λ m e told are sound.
    c.loop-table.invariant.goes_on m e told (draft_of_first c.args.store.now c.root.result.now (record { root = c.in-Ok.root; moved = c.new.result }) m e c.root.ensures.root c.in-Ok.ensures c.new.ensures.items are sound)
