use Rattle.std.proofs.Common.{◌≡◌, take}
use Rattle.exec_group.specs.Accumulators.{argument_in}
use Rattle.exec_group.specs.Columns.{put_each, row_of}
use Rattle.exec_group.proofs.kept.take_each.Given as goal

abbrev pub invariant-loop-i : goal.invariant-loop-i
invariant-loop-i l = l.list.items ≡ put_each (λ p. argument_in l.a.arg (row_of l.columns p)) (take l.i l.groups) (take l.i l.places) l.fn.list.items
