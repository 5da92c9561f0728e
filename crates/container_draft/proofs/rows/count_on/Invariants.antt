use Rattle.std.proofs.Common.{◌≤◌, ◌+◌, length, take}
use Rattle.container_draft.specs.Lanes.{joined}
use Rattle.container_draft.proofs.rows.count_on.Given as goal

abbrev pub invariant-loop-lanes : goal.invariant-loop-lanes
invariant-loop-lanes l = l.count ≤ l.first + length (joined (take l.lanes-index l.parts))
