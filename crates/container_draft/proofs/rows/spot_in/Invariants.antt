use Rattle.std.proofs.Common.{◌≡◌, drop}
use Rattle.container_draft.specs.Lanes.{joined}
use Rattle.container_draft.specs.Placed.{asked_at}
use Rattle.container_draft.proofs.rows.spot_in.Given as goal

abbrev pub invariant-loop-lanes : goal.invariant-loop-lanes
invariant-loop-lanes l = asked_at (joined (drop l.lanes-index l.parts)) l.at ≡ asked_at (joined l.parts) l.place
