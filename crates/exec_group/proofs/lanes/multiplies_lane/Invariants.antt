use Rattle.std.proofs.Common.{◌*ℤ◌}
use Rattle.exec_group.proofs.Spans.{OpUpto}
use Rattle.exec_group.proofs.lanes.multiplies_lane.Given as goal

abbrev pub invariant-loop-i : goal.invariant-loop-i
invariant-loop-i l = OpUpto (λ a b. a *ℤ b) l.part l.i l.fn.so_far.items l.so_far.items
