use Rattle.std.proofs.Common.{◌≡◌, filter, take}
use Rattle.exec_group.specs.Columns.{row_of}
use Rattle.sql_bound.specs.Values.{is_true, of_row, value_of}
use Rattle.query_run.proofs.filter.each_kept.Given as goal

abbrev pub invariant-loop-place : goal.invariant-loop-place
invariant-loop-place l = l.kept.items ≡ filter (λ i. is_true (value_of (of_row (row_of l.columns i)) l.e)) (take l.place-index l.places)
