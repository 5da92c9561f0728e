use Rattle.std.proofs.Common.{◌∙◌, []}
use Rattle.sql_bound.specs.Bounds.{bound_of}
use Rattle.statement_binder.proofs.Factored.{capped_step}
use Rattle.statement_binder.proofs.bounds.+bound.Goals as goal

pub product_of-loop-part-preserved : goal.product_of-loop-part-preserved
product_of-loop-part-preserved t c =
    c.saturating_mul-product.ensures
    ∙ capped_step (bound_of []) c.args.parts.now c.loop-part.part-index c.part-item.result _ _ c.loop-part-test.true c.part-item.is c.loop-part.invariant c.bound_of.ensures
