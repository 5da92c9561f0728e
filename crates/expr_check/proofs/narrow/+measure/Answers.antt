use Rattle.std.proofs.Common.{◌∙◌}
use Rattle.sql_bound.specs.Bounds.{measure}
use Rattle.expr_check.proofs.Factors.{capped_step, narrow_step}
use Rattle.expr_check.proofs.narrow.+measure.Goals as goal

pub product_of-loop-part-preserved : goal.product_of-loop-part-preserved
product_of-loop-part-preserved t c = record {
  bound =
      c.saturating_mul-bound.ensures
      ∙ capped_step (measure c.args.aggs.now) c.args.parts.now c.loop-part.part-index c.part-item.result _ _ c.loop-part-test.true
      c.part-item.is c.loop-part.invariant.bound c.measure-part.ensures.bound;
  narrow =
      narrow_step (measure c.args.aggs.now) c.args.parts.now c.loop-part.part-index c.part-item.result _ _ c.loop-part-test.true
      c.part-item.is c.loop-part.invariant.narrow c.measure-part.ensures.narrow;
}
