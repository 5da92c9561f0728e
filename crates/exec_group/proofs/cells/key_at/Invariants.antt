use Rattle.std.proofs.Common.{◌≡◌, take}
use Rattle.sql_bound.specs.Outputs.{keys_of}
use Rattle.exec_group.specs.Columns.{row_of}
use Rattle.exec_group.proofs.cells.key_at.Given as goal

abbrev pub invariant-loop-column : goal.invariant-loop-column
invariant-loop-column l = l.key.items ≡ keys_of (take l.column-index l.keys) (row_of l.columns l.place)
