use Rattle.std.proofs.Common.{◌≡◌, subst, rules, true, false}
use Rattle.std.specs.Result.{IfOk}
use Rattle.sql_bound.specs.declared.query.BoundQuery.{BoundQuery}
use Rattle.sql_binding.specs.Uses.{is_grouped}
use Rattle.statement_binder.specs.Scopes.{scope_of}
use Rattle.statement_binder.proofs.Scoped.{bound_rows, bound_groups}
use Rattle.statement_binder.proofs.queries.bind_in.Goals as goal

pub returns-then-is_grouped : goal.returns-then-is_grouped
returns-then-is_grouped c =
    let q = c.args.query.now in
    let so : is_grouped q ≡ true = search rules in
    subst (λ (v : BoundQuery). IfOk c.over_groups.result (λ b. b ≡ v))
    (bound_groups c.args.tables.now c.args.scope.seen.now c.args.outputs.now (scope_of c.args.scope) q so c.requires.outputs c.requires.whole)
    c.over_groups.ensures

pub returns-else-is_grouped : goal.returns-else-is_grouped
returns-else-is_grouped c =
    let q = c.args.query.now in
    let so : is_grouped q ≡ false = search rules in
    subst (λ (v : BoundQuery). IfOk c.over_rows.result (λ b. b ≡ v))
    (bound_rows c.args.tables.now c.args.scope.seen.now c.args.outputs.now (scope_of c.args.scope) q so c.requires.outputs c.requires.whole)
    c.over_rows.ensures
