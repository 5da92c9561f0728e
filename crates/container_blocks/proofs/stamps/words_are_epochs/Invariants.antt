use Rattle.std.proofs.Common.{take}
use Rattle.std.specs.List.{All}
use Rattle.ros_container.specs.Rows.{IsEpochOf}
use Rattle.container_blocks.proofs.stamps.words_are_epochs.Given as goal

abbrev pub invariant-loop-word : goal.invariant-loop-word
invariant-loop-word l = All (IsEpochOf l.entry) (take l.word-index l.words)
