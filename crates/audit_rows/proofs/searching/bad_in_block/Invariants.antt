use Rattle.del_vector.specs.Marks.{epoch_at}
use Rattle.audit_rows.proofs.BlocksSearched.{RowsAhead}
use Rattle.audit_rows.proofs.searching.bad_in_block.Given as goal

abbrev pub invariant-loop-i : goal.invariant-loop-i
invariant-loop-i l = RowsAhead l.epoch l.mark l.table l.shape (epoch_at l.vector.marks) l.first l.stamps l.columns l.i
