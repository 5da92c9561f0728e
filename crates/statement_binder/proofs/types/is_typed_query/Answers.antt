use Rattle.std.proofs.Common.{◌≡◌, ap, ◌∙◌, subst, Bool, List}
use Rattle.std.specs.Result.{IfOk}
use Rattle.sql_bound.specs.declared.expr.Kind.{Kind}
use Rattle.sql_binding.specs.Queries.{is_typed_query}
use Rattle.statement_binder.specs.Measures.{over_columns}
use Rattle.statement_binder.proofs.types.is_typed_query.Goals as goal

pub returns : goal.returns
returns c =
    subst (λ (v : Bool). IfOk c.is_typed_over.result (λ t. t ≡ v))
    (ap (λ (cs : List Kind). is_typed_query (over_columns cs) c.args.query.now) (c.as_slice.ensures.value ∙ c.in_ok-columns.ensures))
    c.is_typed_over.ensures
