use Rattle.std.proofs.Common.{ap, ◌∙◌, ◌++◌, ℕ, [], ◌∷◌}
use Rattle.sql_bound.specs.Bounds.{bound_of_aggregate}
use Rattle.sql_bound.specs.declared.query.Aggregate.{Aggregate}
use Rattle.expr_check.specs.Capped.{capped}
use Rattle.statement_binder.proofs.Growing.{value_more}
use Rattle.statement_binder.proofs.narrowness.bounds_of.Goals as goal

pub loop-aggregate-preserved : goal.loop-aggregate-preserved
loop-aggregate-preserved c =
    let f = λ (a : Aggregate). capped (bound_of_aggregate a) in
    let out = c.loop-aggregate.out.items in
    c.in_ok-push.ensures.items
    ∙ (ap (λ (v : ℕ). out ++ (v ∷ [])) (c.bound_of_aggregate.ensures)
    ∙ value_more Aggregate (ℕ) f c.args.aggs.now c.loop-aggregate.aggregate-index c.aggregate-item.result out c.loop-aggregate-test.true c.aggregate-item.is c.loop-aggregate.invariant)
