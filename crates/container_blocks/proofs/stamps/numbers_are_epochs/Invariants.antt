use Rattle.std.proofs.Common.{take}
use Rattle.std.specs.List.{All}
use Rattle.block_codec.specs.Held.{number_value}
use Rattle.ros_container.specs.Rows.{IsEpochOf}
use Rattle.container_blocks.proofs.stamps.numbers_are_epochs.Given as goal

abbrev pub invariant-loop-n : goal.invariant-loop-n
invariant-loop-n l = All (λ n. IsEpochOf l.entry (number_value n)) (take l.n-index l.numbers)
