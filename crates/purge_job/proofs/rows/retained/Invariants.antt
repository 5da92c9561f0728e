use Rattle.std.proofs.Common.{◌≡◌, ◌++◌}
use Rattle.row_history.specs.History.{retained}
use Rattle.purge_job.proofs.rows.retained.Given as goal

abbrev pub invariant-loop-row : goal.invariant-loop-row
invariant-loop-row l = l.out.items ++ retained l.mark l.row-iterator.rest.items ≡ retained l.mark l.fn.rows.items
