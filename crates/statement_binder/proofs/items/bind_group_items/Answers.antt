use Rattle.std.proofs.Common.{◌≡◌, sym, ap, ◌∙◌, subst, List, length, ◌++◌}
use Rattle.std.specs.Result.{IfOk}
use Rattle.std.proofs.lemmas.List.{append-nil}
use Rattle.sql_tree.specs.declared.query.Items.{Items}
use Rattle.sql_bound.specs.declared.expr.Expr.{Expr}
use Rattle.sql_bound.specs.declared.query.Aggregate.{Aggregate}
use Rattle.sql_binding.specs.Trees.{groups_of, all_aggs}
use Rattle.statement_binder.specs.Scopes.{scope_of, items_in}
use Rattle.statement_binder.proofs.Stars.{star_groups, star_aggs, always}
use Rattle.statement_binder.proofs.items.bind_group_items.Goals as goal

pub returns-in-Star-clause-items : goal.returns-in-Star-clause-items
returns-in-Star-clause-items c =
    let s = scope_of c.args.scope in
    let n = length c.args.aggs.now.items in
    subst (λ (es : List Expr). IfOk c.column_groups.result (λ l. l ≡ es))
    (star_groups s n ∙ ap (λ (i : Items). groups_of (items_in s i) n) (sym c.in-Star.is))
    c.column_groups.ensures

pub returns-in-Star-clause-aggs : goal.returns-in-Star-clause-aggs
returns-in-Star-clause-aggs c =
    let s = scope_of c.args.scope in
    let before = c.args.aggs.now.items in
    always c.column_groups.result _
    (sym (append-nil before)
    ∙ (ap (λ (more : List Aggregate). before ++ more) (sym (star_aggs s))
    ∙ ap (λ (i : Items). before ++ all_aggs (items_in s i)) (sym c.in-Star.is)))
