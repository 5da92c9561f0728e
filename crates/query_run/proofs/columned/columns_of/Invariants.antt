use Rattle.query_run.proofs.Finding.{AreUpTo}
use Rattle.query_run.proofs.columned.columns_of.Given as goal

abbrev pub invariant-loop-column : goal.invariant-loop-column
invariant-loop-column l = AreUpTo l.rows l.column l.out.items
