use Rattle.std.proofs.Common.{◌≡◌, drop}
use Rattle.exec_scan.specs.Passing.{is_passed}
use Rattle.exec_scan.proofs.passing.is_passed.Given as goal

abbrev pub invariant-loop-bound : goal.invariant-loop-bound
invariant-loop-bound l = is_passed (drop l.bound-index l.bounds) l.indexes l.block ≡ is_passed l.bounds l.indexes l.block
