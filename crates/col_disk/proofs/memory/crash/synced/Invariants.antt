use Rattle.std.proofs.Common.{◌≡◌, ◌≤◌, length, drop, false, ℕ}
use Rattle.std.specs.List.{All}
use Rattle.col_disk.specs.Crashing.{is_sync}
use Rattle.col_disk.proofs.memory.crash.synced.Given as goal

abbrev pub invariant-loop-left : goal.invariant-loop-left
invariant-loop-left l = (l.left ≤ length l.dids) × All (λ d. is_sync d ≡ false) (drop l.left l.dids)

abbrev pub decreases-loop-left : goal.decreases-loop-left
decreases-loop-left l = l.left
