use Rattle.std.proofs.Common.{◌≤◌, ◌∙◌, ◌++◌, ◌∷◌, [], ℕ, List, length, get_or, ap, ap₂, arith}
use Rattle.std.specs.Prelude.{Option}
use Rattle.std.proofs.lemmas.List.{get_or_default}
use Rattle.col_value.specs.declared.value.Value.{Value}
use Rattle.del_vector.specs.Marks.{epoch_at}
use Rattle.row_history.specs.History.{stamped}
use Rattle.stored_rows.specs.Held.{stamped_from}
use Rattle.audit_model.specs.Rows.{judged_in}
use Rattle.audit_rows.specs.Blocks.{asked_at, asked_from}
use Rattle.audit_rows.proofs.Joined.{row_first, row_next, rows_end}
use Rattle.audit_rows.proofs.collecting.add_block.Goals as goal

pub loop-i-init : goal.loop-i-init
loop-i-init c = row_first c.args.epoch c.args.mark c.args.first (epoch_at c.args.vector.now.marks) c.as_slice-stamps.result.now c.as_slice-columns.result.now c.args.out.now.items

pub loop-i-preserved : goal.loop-i-preserved
loop-i-preserved c =
    let stamps = c.as_slice-stamps.result.now in
    let i = c.loop-i.i in
    row_next c.args.epoch c.args.mark c.args.first i (get_or stamps i 0) (epoch_at c.args.vector.now.marks) stamps c.as_slice-columns.result.now c.loop-i.out.items c.add_row.new.out.items _
    c.loop-i-test.true (get_or_default stamps i 0 (get_or stamps i 0) c.loop-i-test.true)
    (c.in_ok-add_row.ensures
    ∙ ap (λ (d : Option ℕ). c.loop-i.out.items ++ judged_in c.args.epoch c.args.mark (stamped d (asked_at c.as_slice-columns.result.now c.loop-i.i (get_or c.as_slice-stamps.result.now c.loop-i.i 0)) ∷ [])) c.epoch_at-del.ensures)
    c.loop-i.invariant

pub returns : goal.returns
returns c =
    let stamps = c.as_slice-stamps.result.now in
    let past : length stamps ≤ c.loop-i.i = omega (arith, c.loop-i-test.false) in
    rows_end c.args.epoch c.args.mark c.args.first c.loop-i.i (epoch_at c.args.vector.now.marks) stamps c.as_slice-columns.result.now c.loop-i.out.items _ past c.loop-i.invariant
    ∙ ap₂ (λ (es : List ℕ) (vss : List (List Value)). c.args.out.now.items ++ judged_in c.args.epoch c.args.mark (stamped_from c.args.first (epoch_at c.args.vector.now.marks) (asked_from 0 es vss))) c.as_slice-stamps.ensures.value
    c.as_slice-columns.ensures.value
