use Rattle.exec_scan.proofs.Narrowing.{StayUpto}
use Rattle.exec_scan.proofs.ruling.rule_out_values.Given as goal

abbrev pub invariant-loop-i : goal.invariant-loop-i
invariant-loop-i l = StayUpto l.bound l.values l.i l.fn.alive l.alive
