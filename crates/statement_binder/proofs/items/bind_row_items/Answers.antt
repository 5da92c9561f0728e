use Rattle.std.proofs.Common.{◌≡◌, sym, ap, ◌∙◌, subst, List}
use Rattle.std.specs.Result.{IfOk}
use Rattle.sql_tree.specs.declared.query.Items.{Items}
use Rattle.sql_bound.specs.declared.expr.Expr.{Expr}
use Rattle.sql_binding.specs.Trees.{rows_of}
use Rattle.statement_binder.specs.Scopes.{scope_of, items_in}
use Rattle.statement_binder.proofs.Stars.{star_rows}
use Rattle.statement_binder.proofs.items.bind_row_items.Goals as goal

pub returns-in-Star : goal.returns-in-Star
returns-in-Star c =
    let s = scope_of c.args.scope in
    subst (λ (es : List Expr). IfOk c.column_rows.result (λ l. l ≡ es))
    (star_rows s ∙ ap (λ (i : Items). rows_of (items_in s i)) (sym c.in-Star.is))
    c.column_rows.ensures
