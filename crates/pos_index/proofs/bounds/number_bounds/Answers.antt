use Rattle.std.proofs.Common.{rules, w64}
use Rattle.std.proofs.lemmas.Int.{to_z-of_z}
use Rattle.pos_index.specs.Built.{lesser, greater}
use Rattle.pos_index.proofs.NumberBounds.{bound_more}
use Rattle.pos_index.proofs.bounds.number_bounds.Goals as goal

pub loop-value-preserved : goal.loop-value-preserved
loop-value-preserved c = record {
  least = rw (to_z-of_z w64 c.in-Some.low (search rules)) (bound_more lesser _ c.args.others.now c.loop-value.value-index c.value-item.result _ c.in-Some.low c.loop-value-test.true c.value-item.is c.loop-value.invariant.least c.in-Some.ensures);
  greatest = rw (to_z-of_z w64 c.in-Some-greater_number.high (search rules)) (bound_more greater _ c.args.others.now c.loop-value.value-index c.value-item.result _ c.in-Some-greater_number.high c.loop-value-test.true c.value-item.is c.loop-value.invariant.greatest c.in-Some-greater_number.ensures);
}
