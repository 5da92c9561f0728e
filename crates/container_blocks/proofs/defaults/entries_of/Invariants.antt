use Rattle.std.proofs.Common.{◌≡◌}
use Rattle.container_blocks.specs.Parts.{entries_of_one}
use Rattle.container_blocks.proofs.defaults.entries_of.Given as goal

abbrev pub invariant-loop-block : goal.invariant-loop-block
invariant-loop-block l = l.entries.items ≡ entries_of_one l.value 0 l.block
