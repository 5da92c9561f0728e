use Rattle.std.proofs.Common.{◌≡◌, replicate}
use Rattle.exec_group.proofs.lanes.repeated.Given as goal

abbrev pub invariant-loop : goal.invariant-loop
invariant-loop l = l.out.items ≡ replicate l.counter l.fn.n
