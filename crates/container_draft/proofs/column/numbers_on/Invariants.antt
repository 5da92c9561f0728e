use Rattle.std.proofs.Common.{◌≡◌, ◌++◌, map, take}
use Rattle.block_codec.specs.Held.{number_value}
use Rattle.container_draft.specs.Lanes.{joined}
use Rattle.container_draft.proofs.column.numbers_on.Given as goal

abbrev pub invariant-loop-block : goal.invariant-loop-block
invariant-loop-block l = map number_value l.out.items ≡ map number_value l.fn.before.items ++ joined (take l.block-index l.blocks)
