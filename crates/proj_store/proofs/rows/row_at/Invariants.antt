use Rattle.std.proofs.Common.{◌≡◌, take}
use Rattle.proj_store.specs.Candidates.{columns_in, row_of}
use Rattle.proj_store.proofs.rows.row_at.Given as goal

abbrev pub invariant-loop-column : goal.invariant-loop-column
invariant-loop-column l = l.row.items ≡ row_of (columns_in (take l.column-index l.columns)) l.i
