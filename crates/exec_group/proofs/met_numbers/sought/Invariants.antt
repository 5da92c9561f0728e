use Rattle.std.proofs.Common.{◌-◌}
use Rattle.exec_group.specs.Rising.{IsSought}
use Rattle.exec_group.proofs.met_numbers.sought.Given as goal

abbrev pub invariant-loop-low : goal.invariant-loop-low
invariant-loop-low l = IsSought l.n l.numbers l.low l.high

abbrev pub decreases-loop-low : goal.decreases-loop-low
decreases-loop-low l = l.high - l.low
