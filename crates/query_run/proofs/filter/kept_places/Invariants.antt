use Rattle.std.proofs.Common.{◌≡◌, filter, take}
use Rattle.exec_group.specs.Columns.{row_of}
use Rattle.sql_bound.specs.Outputs.{is_kept}
use Rattle.query_run.proofs.filter.kept_places.Given as goal

abbrev pub invariant-loop-e : goal.invariant-loop-e
invariant-loop-e l = l.kept.items ≡ filter (λ i. is_kept (take l.e-index l.keep) (row_of l.columns i)) l.places
