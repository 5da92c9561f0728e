use Rattle.std.proofs.Common.{◌≡◌, length, None}
use Rattle.exec_window.proofs.Settling.{written_with}
use Rattle.exec_window.proofs.settle.settled.Given as goal

abbrev pub decreases-loop-step : goal.decreases-loop-step
decreases-loop-step l = length l.left

abbrev pub invariant-loop-step : goal.invariant-loop-step
invariant-loop-step l = written_with l.kind l.left l.shared l.out.items ≡ written_with l.kind l.steps None l.initial.out.items
