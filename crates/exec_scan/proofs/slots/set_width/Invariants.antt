use Rattle.std.proofs.Common.{◌≡◌, length}
use Rattle.exec_scan.proofs.slots.set_width.Given as goal

abbrev pub invariant-loop : goal.invariant-loop
invariant-loop l = length l.row.items ≡ l.counter
