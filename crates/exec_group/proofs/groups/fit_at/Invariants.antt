use Rattle.std.proofs.Common.{take}
use Rattle.exec_group.specs.Groups.{FitsAt}
use Rattle.exec_group.proofs.groups.fit_at.Given as goal

abbrev pub invariant-loop-column : goal.invariant-loop-column
invariant-loop-column l = FitsAt (take l.column-index l.columns) l.group
