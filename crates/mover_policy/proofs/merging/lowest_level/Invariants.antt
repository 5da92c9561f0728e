use Rattle.std.proofs.Common.{◌≡◌, ◌<◌, ℕ, false}
use Rattle.mover_policy.specs.Merging.{has_four}
use Rattle.mover_policy.proofs.merging.lowest_level.Given as goal

abbrev pub invariant-loop-level : goal.invariant-loop-level
invariant-loop-level l = (lower : ℕ) → lower < l.level → has_four l.containers lower ≡ false
