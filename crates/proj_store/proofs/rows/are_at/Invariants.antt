use Rattle.std.proofs.Common.{◌≡◌, take}
use Rattle.proj_store.specs.Candidates.{columns_in, row_of}
use Rattle.proj_store.proofs.rows.are_at.Given as goal

abbrev pub invariant-loop-j : goal.invariant-loop-j
invariant-loop-j l = take l.j l.row ≡ row_of (columns_in (take l.j l.columns)) l.i
