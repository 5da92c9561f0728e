use Rattle.block_codec.proofs.Lane.{no_lane}
use Rattle.block_codec.proofs.numbers.numbers_of.Goals as goal

pub returns-in-None-clause-none : goal.returns-in-None-clause-none
returns-in-None-clause-none c = no_lane c.args.values.now c.loop-value.value-index c.value-item.result c.loop-value-test.true c.value-item.is c.in-None.ensures.none
