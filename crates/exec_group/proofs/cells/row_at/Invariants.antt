use Rattle.std.proofs.Common.{◌≡◌, map, take}
use Rattle.exec_group.specs.Columns.{cell}
use Rattle.exec_group.proofs.cells.row_at.Given as goal

abbrev pub invariant-loop-column : goal.invariant-loop-column
invariant-loop-column l = l.row.items ≡ map (cell l.place) (take l.column-index l.columns)
