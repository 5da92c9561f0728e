use Rattle.std.proofs.Common.{◌≡◌, take}
use Rattle.cut_job.proofs.catalogues.copy_columns.Given as goal

abbrev pub invariant-loop-column : goal.invariant-loop-column
invariant-loop-column l = l.out.items ≡ take l.column-index l.columns
