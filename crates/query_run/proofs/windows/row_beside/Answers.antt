use Rattle.std.proofs.Common.{◌≡◌, ◌∙◌, true, List, [], ap₂, get_or, map, subst, sym}
use Rattle.std.specs.List.{All}
use Rattle.std.proofs.lemmas.List.{get_or_default}
use Rattle.std.proofs.lemmas.Result.{IfOk-weaker}
use Rattle.sql_bound.specs.declared.expr.Expr.{Expr}
use Rattle.sql_bound.specs.Bounds.{bound_of_value, is_narrow}
use Rattle.sql_bound.specs.Outputs.{window_scope}
use Rattle.sql_bound.specs.Values.{Scope, value_of}
use Rattle.query_run.proofs.Beside.{row_narrow, scope_beside}
use Rattle.query_run.proofs.windows.row_beside.Goals as goal

pub items_at-requires-clause-narrow : goal.items_at-requires-clause-narrow
items_at-requires-clause-narrow c =
    let q = c.args.query.now in
    let rows = c.args.rows.now in
    let i = c.args.i in
    let row = c.as_slice-2.ensures ∙ c.requires.row ∙ get_or_default rows i c.args.row.now [] c.requires.inside in
    let here = scope_beside q rows i c.as_slice-2.result.now c.as_slice-3.result.now c.args.columns.now c.of_tuple.result c.requires.inside row
    (c.as_slice-3.ensures.value ∙ c.in_ok-values.ensures) c.requires.beside.columns c.of_tuple.ensures in
    subst (λ (s : Scope). All (λ e. is_narrow (map bound_of_value s.aggs) e ≡ true) c.as_slice.result.now) (sym here)
    (subst (λ (es : List Expr). All (λ e. is_narrow (map bound_of_value (window_scope q rows (i, get_or rows i [])).aggs) e ≡ true) es) (sym c.as_slice.ensures) (row_narrow q rows c.args.columns.now c.requires.beside i c.requires.inside))

pub returns : goal.returns
returns c =
    let q = c.args.query.now in
    let rows = c.args.rows.now in
    let i = c.args.i in
    let row = c.as_slice-2.ensures ∙ c.requires.row ∙ get_or_default rows i c.args.row.now [] c.requires.inside in
    let here = scope_beside q rows i c.as_slice-2.result.now c.as_slice-3.result.now c.args.columns.now c.of_tuple.result c.requires.inside row
    (c.as_slice-3.ensures.value ∙ c.in_ok-values.ensures) c.requires.beside.columns c.of_tuple.ensures in
    IfOk-weaker c.items_at.result _ _ (λ r made. made ∙ ap₂ (λ (s : Scope) (es : List Expr). map (value_of s) es) here c.as_slice.ensures) c.items_at.ensures
