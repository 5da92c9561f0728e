use Rattle.std.proofs.Common.{◌<◌, ◌≤◌, length, ap, arith}
use Rattle.col_disk.proofs.Moving.{moved_join, moved_none}
use Rattle.table_store.proofs.Drained.{draft_next, of_long}
use Rattle.table_store.proofs.draining.move_table.Goals as goal

pub loop-place-init : goal.loop-place-init
loop-place-init g c = record { draft = c.requires.draft; goes_on = λ m d told of. (m, told, of); moved = moved_none g.D.Disk c.args.disk.now; count = omega arith }

pub move_one-requires-clause-there : goal.move_one-requires-clause-there
move_one-requires-clause-there g c =
    of_long c.tables.result.now c.args.store.now.stores c.args.table c.index-tables-table.result (λ n. c.loop-place.place < n) c.tables.ensures c.requires.there c.index-tables-table.is
    (omega (arith, c.loop-place-test.true, ap length c.as_slice-count.ensures))

pub returns-in-Err-clause-unblamed : goal.returns-in-Err-clause-unblamed
returns-in-Err-clause-unblamed g c = λ m n d was now of.
    let (k, told, there) = c.loop-place.invariant.goes_on m d was of in
    c.in-Err.ensures.unblamed k n d told now there

pub returns-in-Err-clause-moved : goal.returns-in-Err-clause-moved
returns-in-Err-clause-moved g c = moved_join g.D.Disk c.loop-place.invariant.moved c.move_one.ensures.moved

pub loop-place-preserved : goal.loop-place-preserved
loop-place-preserved g c = record {
  draft = c.in-Ok.ensures.draft;
  goes_on = λ m d told of. let (k, there, over) = c.loop-place.invariant.goes_on m d told of in c.in-Ok.ensures.goes_on k d there over;
  moved = moved_join g.D.Disk c.loop-place.invariant.moved c.move_one.ensures.moved;
  count = omega (arith, c.loop-place.invariant.count, c.move_one.ensures.cause.later);
}

pub returns-clause-draft : goal.returns-clause-draft
returns-clause-draft g c =
    draft_next c.args.store.now c.loop-place.draft c.args.table c.loop-place.place c.loop-place.invariant.draft
    (of_long c.tables.result.now c.args.store.now.stores c.args.table c.index-tables-table.result (λ n. n ≤ c.loop-place.place) c.tables.ensures c.requires.there c.index-tables-table.is
    (omega (arith, c.loop-place-test.false, ap length c.as_slice-count.ensures)))
