use Rattle.std.proofs.Common.{◌≡◌, take}
use Rattle.col_value.specs.Order.{projected}
use Rattle.refresh_job.proofs.rows.project.Given as goal

abbrev pub invariant-loop-column : goal.invariant-loop-column
invariant-loop-column l = l.out.items ≡ projected l.row (take l.column-index l.columns)
