use Rattle.std.proofs.Common.{ap, ap₂, ◌∙◌, ℕ, List, map}
use Rattle.std.specs.List.{slice_index_or}
use Rattle.sql_bound.specs.declared.expr.Kind.{Kind}
use Rattle.sql_bound.specs.declared.query.Aggregate.{Aggregate}
use Rattle.sql_bound.specs.Kinds.{Kinds, kind_of_aggregate}
use Rattle.sql_binding.specs.Queries.{kind_or_null}
use Rattle.statement_binder.specs.Measures.{is_typed_in, over_columns, of_groups}
use Rattle.statement_binder.proofs.types.is_typed_groups.Goals as goal

pub returns : goal.returns
returns c =
    let q = c.args.query.now in
    let cs = c.args.columns.now in
    let keys = c.as_slice-3.ensures.value ∙ (c.in_ok-keys.ensures ∙ ap (λ (ks : List ℕ). map (λ (k : ℕ). slice_index_or cs k Kind.Null) ks) c.as_slice.ensures) in
    let aggs = c.as_slice-4.ensures.value ∙ (c.in_ok-aggs.ensures ∙ ap (λ (gs : List Aggregate). map (λ (a : Aggregate). kind_or_null (kind_of_aggregate (over_columns cs) a)) gs) c.as_slice-2.ensures) in
    c.is_typed_in.ensures
    ∙ ap₂ (λ (r g : Kinds). is_typed_in r g q) c.new-rows.ensures (c.new-groups.ensures ∙ ap₂ (λ (ks gs : List Kind). of_groups ks gs) keys aggs)
