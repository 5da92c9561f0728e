use Rattle.std.proofs.Common.{◌≡◌, take}
use Rattle.exec_group.specs.Columns.{each_put, row_of}
use Rattle.exec_group.proofs.groups.put_places.Given as goal

abbrev pub invariant-loop-i : goal.invariant-loop-i
invariant-loop-i l = l.kept.items ≡ each_put (row_of l.columns) l.count l.groups l.places (take l.i l.aggs) l.fn.kept.items
