use Rattle.std.proofs.Common.{◌≡◌, true, map, subst, sym}
use Rattle.std.specs.List.{All}
use Rattle.std.specs.Ordering.{is_lt}
use Rattle.std.specs.Prelude.{IsSomeAnd}
use Rattle.sql_bound.specs.Bounds.{bound_of_value, is_narrow}
use Rattle.sql_bound.specs.Printed.{printed_cmp}
use Rattle.sql_bound.specs.Values.{Scope}
use Rattle.query_laws.proofs.Shown.{all_narrow_here}
use Rattle.query_run.specs.Outputs.{items_in, scope_of}
use Rattle.query_run.proofs.output.is_group_barred.Goals as goal

pub is_sight_barred-requires-clause-narrow : goal.is_sight_barred-requires-clause-narrow
is_sight_barred-requires-clause-narrow c =
    let q = c.args.query.now in
    subst (λ (s : Scope). All (λ e. is_narrow (map bound_of_value s.aggs) e ≡ true) q.items) (sym c.of_group.ensures)
    (all_narrow_here q (scope_of c.args.keys.now c.args.aggs.now) q.items c.requires.group c.requires.narrow)

pub returns : goal.returns
returns c barred =
    let q = c.args.query.now in
    subst (λ (s : Scope). IsSomeAnd c.args.bar.now (λ row. is_lt (printed_cmp q.order row (items_in q s)) ≡ true)) c.of_group.ensures (c.is_sight_barred.ensures barred)
