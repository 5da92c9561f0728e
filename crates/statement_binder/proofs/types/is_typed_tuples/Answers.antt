use Rattle.std.proofs.Common.{ap, ap₂, ◌∙◌, List, map}
use Rattle.sql_bound.specs.declared.expr.Kind.{Kind}
use Rattle.sql_bound.specs.declared.query.Aggregate.{Aggregate}
use Rattle.sql_bound.specs.Kinds.{Kinds, kind_of_aggregate}
use Rattle.sql_binding.specs.Queries.{kind_or_null}
use Rattle.statement_binder.specs.Measures.{is_typed_in, over_columns, of_tuples}
use Rattle.statement_binder.proofs.types.is_typed_tuples.Goals as goal

pub returns : goal.returns
returns c =
    let q = c.args.query.now in
    let cs = c.args.columns.now in
    let aggs = c.as_slice-2.ensures.value ∙ (c.in_ok-aggs.ensures ∙ ap (λ (gs : List Aggregate). map (λ (a : Aggregate). kind_or_null (kind_of_aggregate (over_columns cs) a)) gs) c.as_slice.ensures) in
    c.is_typed_in.ensures
    ∙ ap₂ (λ (r t : Kinds). is_typed_in r t q) c.new-rows.ensures (c.new-tuples.ensures ∙ ap (λ (gs : List Kind). of_tuples cs gs) aggs)
