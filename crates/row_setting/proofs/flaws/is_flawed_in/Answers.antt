use Rattle.std.proofs.Common.{◌≡◌, ◌∙◌, sym, ap, arith}
use Rattle.col_value.specs.declared.wide.Wide.{Wide}
use Rattle.sql_bound.specs.Values.{Scope, of_row, value_of}
use Rattle.expr_value.specs.Worths.{wide_of}
use Rattle.row_setting.specs.Flaws.{has_flaw}
use Rattle.row_setting.proofs.Flawed.{row_found, row_passed}
use Rattle.row_setting.proofs.flaws.is_flawed_in.Goals as goal

pub returns-then-is_in : goal.returns-then-is_in
returns-then-is_in c =
    let worth : wide_of c.value_of.result ≡ value_of (of_row c.row-item.result) c.args.value.now = c.value_of.ensures ∙ ap (λ (s : Scope). value_of s c.args.value.now) (c.of_row.ensures ∙ ap of_row c.as_slice.ensures) in
    let here : c.is_in.result ≡ has_flaw c.args.flaw (c.args.column.now, value_of (of_row c.row-item.result) c.args.value.now) = c.is_in.ensures ∙ ap (λ (w : Wide). has_flaw c.args.flaw (c.args.column.now, w)) worth in
    row_found (has_flaw c.args.flaw) (λ row. (c.args.column.now, value_of (of_row row) c.args.value.now)) c.args.rows.now c.loop-row.row-index c.row-item.result (omega arith) c.row-item.is c.loop-row.invariant (sym here ∙ c.if-is_in.true)

pub loop-row-preserved : goal.loop-row-preserved
loop-row-preserved c =
    let worth : wide_of c.value_of.result ≡ value_of (of_row c.row-item.result) c.args.value.now = c.value_of.ensures ∙ ap (λ (s : Scope). value_of s c.args.value.now) (c.of_row.ensures ∙ ap of_row c.as_slice.ensures) in
    let here : c.is_in.result ≡ has_flaw c.args.flaw (c.args.column.now, value_of (of_row c.row-item.result) c.args.value.now) = c.is_in.ensures ∙ ap (λ (w : Wide). has_flaw c.args.flaw (c.args.column.now, w)) worth in
    row_passed (has_flaw c.args.flaw) (λ row. (c.args.column.now, value_of (of_row row) c.args.value.now)) c.args.rows.now c.loop-row.row-index c.row-item.result (omega arith) c.row-item.is c.loop-row.invariant (sym here ∙ c.if-is_in.false)
