use Rattle.std.proofs.Common.{◌≡◌, filter, length, take}
use Rattle.exec_group.specs.Columns.{row_of}
use Rattle.sql_bound.specs.Outputs.{is_kept}
use Rattle.query_run.specs.Ready.{is_told}
use Rattle.query_run.proofs.filter.told_places.Given as goal

abbrev pub invariant-loop-e : goal.invariant-loop-e
invariant-loop-e l = l.kept.items ≡ filter (λ i. is_kept (filter (is_told (length l.columns)) (take l.e-index l.keep)) (row_of l.columns i)) l.places
