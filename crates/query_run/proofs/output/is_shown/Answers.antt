use Rattle.std.proofs.Common.{◌≡◌, true, map, ap, ◌∙◌, subst, sym, Option}
use Rattle.std.specs.Option.{option_map_or}
use Rattle.sql_bound.specs.declared.expr.Expr.{Expr}
use Rattle.sql_bound.specs.Bounds.{bound_of_aggregate, bound_of_value, is_narrow}
use Rattle.sql_bound.specs.Values.{Scope, is_true, value_of}
use Rattle.query_laws.proofs.Shown.{narrow_here}
use Rattle.query_run.specs.Outputs.{scope_of}
use Rattle.query_run.proofs.output.is_shown.Goals as goal

pub is_true-requires-clause-narrow : goal.is_true-requires-clause-narrow
is_true-requires-clause-narrow c =
    let q = c.args.query.now in
    let bounds = map bound_of_aggregate q.aggs in
    let narrow : is_narrow bounds c.in-Some.having ≡ true =
    subst (λ (e : Option Expr). option_map_or (is_narrow bounds) e true ≡ true) c.in-Some.is c.requires.having in
    subst (λ (s : Scope). is_narrow (map bound_of_value s.aggs) c.in-Some.having ≡ true) (sym c.of_group.ensures)
    (narrow_here q (scope_of c.args.keys.now c.args.aggs.now) c.in-Some.having c.requires.group narrow)

pub returns-in-Some : goal.returns-in-Some
returns-in-Some c =
    let group = scope_of c.args.keys.now c.args.aggs.now in
    c.is_true.ensures ∙ ap (λ (s : Scope). is_true (value_of s c.in-Some.having)) c.of_group.ensures
    ∙ sym (ap (λ (e : Option Expr). option_map_or (λ (x : Expr). is_true (value_of group x)) e true) c.in-Some.is)
