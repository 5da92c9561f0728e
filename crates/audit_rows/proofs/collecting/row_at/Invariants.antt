use Rattle.std.proofs.Common.{◌≡◌, take}
use Rattle.audit_rows.specs.Blocks.{row_at}
use Rattle.audit_rows.proofs.collecting.row_at.Given as goal

abbrev pub invariant-loop-column : goal.invariant-loop-column
invariant-loop-column l = l.row.items ≡ row_at (take l.column-index l.columns) l.i
