use Rattle.std.proofs.Common.{length}
use Rattle.container_writer.proofs.ordering.are_rising.Given as goal

abbrev pub decreases-loop-rest : goal.decreases-loop-rest
decreases-loop-rest l = length l.rest
