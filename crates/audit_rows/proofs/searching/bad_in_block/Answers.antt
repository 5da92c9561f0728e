use Rattle.std.proofs.Common.{◌≤◌, ◌∙◌, length, get_or, sym, arith}
use Rattle.std.proofs.lemmas.Bool.{false≢true}
use Rattle.std.specs.Prelude.{None, Some}
use Rattle.std.proofs.lemmas.List.{get_or_default}
use Rattle.del_vector.specs.Marks.{epoch_at}
use Rattle.audit_rows.proofs.BlocksSearched.{rows_ahead, row_good, row_bad, rows_done, seen_at}
use Rattle.audit_rows.proofs.searching.bad_in_block.Goals as goal

pub loop-i-init : goal.loop-i-init
loop-i-init c = rows_ahead c.args.epoch c.args.mark c.args.table.now c.args.shape.now (epoch_at c.args.vector.now.marks) c.args.first c.as_slice-stamps.result.now c.as_slice-columns.result.now

pub loop-i-preserved : goal.loop-i-preserved
loop-i-preserved c =
    let stamps = c.as_slice-stamps.result.now in
    let i = c.loop-i.i in
    row_good c.args.epoch c.args.mark c.args.table.now c.args.shape.now (epoch_at c.args.vector.now.marks) c.args.first stamps c.as_slice-columns.result.now i (get_or stamps i 0) c.epoch_at-del.result c.loop-i-test.true
    (get_or_default stamps i 0 (get_or stamps i 0) c.loop-i-test.true) c.epoch_at-del.ensures (c.is_good.ensures.0 c.if-not-is_good.false) c.loop-i.invariant

pub returns-then-not-is_good : goal.returns-then-not-is_good
returns-then-not-is_good c =
    let stamps = c.as_slice-stamps.result.now in
    let i = c.loop-i.i in
    seen_at c.args.epoch c.args.mark c.args.table.now c.args.shape.now (epoch_at c.args.vector.now.marks) c.args.first stamps c.args.block.now.stamps.items c.as_slice-columns.result.now c.args.block.now.columns.items (Some _)
    c.as_slice-stamps.ensures.value c.as_slice-columns.ensures.value
    (row_bad c.args.epoch c.args.mark c.args.table.now c.args.shape.now (epoch_at c.args.vector.now.marks) c.args.first stamps c.as_slice-columns.result.now i (get_or stamps i 0) c.epoch_at-del.result c.loop-i-test.true
    (get_or_default stamps i 0 (get_or stamps i 0) c.loop-i-test.true) c.epoch_at-del.ensures (λ good. absurd (false≢true (sym c.if-not-is_good.true ∙ c.is_good.ensures.1 good))) c.loop-i.invariant)

pub returns : goal.returns
returns c =
    let stamps = c.as_slice-stamps.result.now in
    let past : length stamps ≤ c.loop-i.i = omega (arith, c.loop-i-test.false) in
    seen_at c.args.epoch c.args.mark c.args.table.now c.args.shape.now (epoch_at c.args.vector.now.marks) c.args.first stamps c.args.block.now.stamps.items c.as_slice-columns.result.now c.args.block.now.columns.items None
    c.as_slice-stamps.ensures.value c.as_slice-columns.ensures.value
    (rows_done c.args.epoch c.args.mark c.args.table.now c.args.shape.now (epoch_at c.args.vector.now.marks) c.args.first stamps c.as_slice-columns.result.now c.loop-i.i past c.loop-i.invariant)
