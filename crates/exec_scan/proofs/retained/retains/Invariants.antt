use Rattle.exec_scan.proofs.Keeping.{NoneBefore}
use Rattle.exec_scan.proofs.retained.retains.Given as goal

abbrev pub invariant-loop-i : goal.invariant-loop-i
invariant-loop-i l = NoneBefore l.mark l.store.stored l.i
