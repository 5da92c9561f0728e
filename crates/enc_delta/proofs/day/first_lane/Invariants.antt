use Rattle.std.proofs.Common.{◌≡◌, drop, map}
use Rattle.block_codec.specs.Held.{day_value}
use Rattle.enc_delta.specs.DateDelta.{earlier, first_day}
use Rattle.enc_delta.proofs.day.first_lane.Given as goal

abbrev pub invariant-loop-d : goal.invariant-loop-d
invariant-loop-d l = earlier l.found (first_day (map day_value (drop l.d-index l.days))) ≡ first_day (map day_value l.days)
