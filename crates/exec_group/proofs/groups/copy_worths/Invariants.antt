use Rattle.std.proofs.Common.{◌≡◌, take}
use Rattle.exec_group.specs.Groups.{worths_at}
use Rattle.exec_group.proofs.groups.copy_worths.Given as goal

abbrev pub invariant-loop-column : goal.invariant-loop-column
invariant-loop-column l = l.out.items ≡ worths_at (take l.column-index l.columns) l.group
