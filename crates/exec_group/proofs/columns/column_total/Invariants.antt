use Rattle.std.proofs.Common.{take}
use Rattle.exec_group.specs.Columns.{IsTotalOf}
use Rattle.exec_group.proofs.columns.column_total.Given as goal

abbrev pub invariant-loop-place : goal.invariant-loop-place
invariant-loop-place l = IsTotalOf l.columns l.e (take l.place-index l.places) l.sum l.size
