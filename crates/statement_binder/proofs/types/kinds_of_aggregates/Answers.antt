use Rattle.std.proofs.Common.{◌≡◌, subst, ap, List, map}
use Rattle.std.specs.Result.{IfOk}
use Rattle.sql_bound.specs.declared.expr.Kind.{Kind}
use Rattle.sql_bound.specs.declared.query.Aggregate.{Aggregate}
use Rattle.sql_bound.specs.Kinds.{Kinds, kind_of_aggregate}
use Rattle.sql_binding.specs.Queries.{kind_or_null}
use Rattle.statement_binder.proofs.types.kinds_of_aggregates.Goals as goal

pub returns : goal.returns
returns c =
    subst (λ (ks : List Kind). IfOk c.aggregate_kinds.result (λ v. v.items ≡ ks))
    (ap (λ (rows : Kinds). map (λ (a : Aggregate). kind_or_null (kind_of_aggregate rows a)) c.args.aggs.now) c.new-rows.ensures)
    c.aggregate_kinds.ensures
