use Rattle.std.proofs.Common.{◌≡◌, map, take}
use Rattle.block_codec.specs.Held.{number_value}
use Rattle.ros_container.specs.Rows.{column_values}
use Rattle.container_draft.specs.Lanes.{joined}
use Rattle.container_draft.proofs.rows.numbers_in.Given as goal

abbrev pub invariant-loop-lanes : goal.invariant-loop-lanes
invariant-loop-lanes l = map number_value l.out.items ≡ column_values l.column (joined (take l.lanes-index l.parts))
