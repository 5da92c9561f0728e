use Rattle.std.proofs.Common.{take}
use Rattle.exec_group.specs.Columns.{IsTotalOf}
use Rattle.exec_group.proofs.columns.short_total.Given as goal

abbrev pub invariant-loop-n : goal.invariant-loop-n
invariant-loop-n l = IsTotalOf l.columns l.e (take l.n-index l.places) l.sum l.size
