use Rattle.std.proofs.Common.{ℕ, ◌≤◌, ◌<◌}
use Rattle.exec_scan.specs.Passing.{IsPassed}
use Rattle.exec_scan.proofs.passing.first_needed.Given as goal

abbrev pub invariant-loop-block : goal.invariant-loop-block
invariant-loop-block l = (block : ℕ) → l.first ≤ block → block < l.block → IsPassed l.bounds l.indexes block
