use Rattle.std.proofs.Common.{◌+ℤ◌}
use Rattle.exec_group.proofs.Spans.{OpUpto, signed}
use Rattle.exec_group.proofs.lanes.adds_lane.Given as goal

abbrev pub invariant-loop-i : goal.invariant-loop-i
invariant-loop-i l = OpUpto (λ a b. a +ℤ signed l.minus b) l.part l.i l.fn.so_far.items l.so_far.items
