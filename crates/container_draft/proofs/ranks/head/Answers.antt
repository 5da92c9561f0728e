use Rattle.std.proofs.Common.{arith, ◌∙◌}
use Rattle.container_draft.proofs.Heads.{few_before, few_more, head_step, seven}
use Rattle.container_draft.proofs.ranks.head.Goals as goal

pub overflow_mul-head : goal.overflow_mul-head
overflow_mul-head c = let few = few_before c.loop-i.i c.loop-i.head c.loop-i-test.true c.loop-i.invariant.few in omega (arith, few)

pub overflow_add-head : goal.overflow_add-head
overflow_add-head c =
    let few = few_before c.loop-i.i c.loop-i.head c.loop-i-test.true c.loop-i.invariant.few in
    let one = c.digit.ensures.few in
    omega (arith, few, one)

pub loop-i-preserved : goal.loop-i-preserved
loop-i-preserved c = record {
  digits =
      head_step c.loop-i.i c.loop-i.head c.loop-i.rest.now c.digit.result c.after-rest.result.now c.loop-i-test.true c.digit.ensures.digit c.after-rest.ensures
      ∙ c.loop-i.invariant.digits;
  few = few_more c.loop-i.i c.loop-i.head c.digit.result c.loop-i.invariant.few c.digit.ensures.few;
}

pub returns-clause-few : goal.returns-clause-few
returns-clause-few c = seven c.loop-i.i c.loop-i.head c.loop-i.auto.i-end c.loop-i-test.false c.loop-i.invariant.few
