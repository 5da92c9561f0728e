use Rattle.std.proofs.Common.{◌≡◌, true, List, map, subst, sym}
use Rattle.std.specs.List.{All}
use Rattle.sql_bound.specs.declared.expr.Expr.{Expr}
use Rattle.sql_bound.specs.Bounds.{bound_of_aggregate, bound_of_value, is_narrow}
use Rattle.sql_bound.specs.Values.{Scope}
use Rattle.query_laws.proofs.Shown.{all_narrow_here}
use Rattle.query_run.specs.Outputs.{scope_of}
use Rattle.query_run.proofs.output.items_in.Goals as goal

pub items_at-requires-clause-narrow : goal.items_at-requires-clause-narrow
items_at-requires-clause-narrow c =
    let q = c.args.query.now in
    let narrow = subst (λ (es : List Expr). All (λ e. is_narrow (map bound_of_aggregate q.aggs) e ≡ true) es) (sym c.as_slice.ensures) c.requires.narrow in
    subst (λ (s : Scope). All (λ e. is_narrow (map bound_of_value s.aggs) e ≡ true) c.as_slice.result.now) (sym c.of_group.ensures)
    (all_narrow_here q (scope_of c.args.keys.now c.args.aggs.now) c.as_slice.result.now c.requires.group narrow)
