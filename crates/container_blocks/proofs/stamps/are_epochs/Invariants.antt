use Rattle.std.proofs.Common.{take}
use Rattle.std.specs.List.{All}
use Rattle.ros_container.specs.Rows.{IsEpochOf}
use Rattle.container_blocks.proofs.stamps.are_epochs.Given as goal

abbrev pub invariant-loop-i : goal.invariant-loop-i
invariant-loop-i l = All (IsEpochOf l.entry) (take l.i l.values)
