use Rattle.container_blocks.proofs.OneBlock.{lie_between}
use Rattle.container_blocks.proofs.laws.values_lie_between.Goals as goal

pub returns : goal.returns
returns c = lie_between
