use Rattle.std.proofs.Common.{◌≡◌, ◌+◌, ◌-◌, ◌≤◌, filter, length, take}
use Rattle.std.specs.Vec.{vec_len, vec_capacity}
use Rattle.exec_group.specs.Columns.{row_of}
use Rattle.sql_bound.specs.Values.{is_true, of_row, value_of}
use Rattle.query_run.proofs.filter.lane_kept.Given as goal

abbrev pub invariant-loop-place : goal.invariant-loop-place
invariant-loop-place l = record {
  kept : l.kept.items ≡ filter (λ i. is_true (value_of (of_row (row_of l.columns i)) l.e)) (take l.place-index l.places);
  room : vec_len l.kept + (length l.places - l.place-index) ≤ vec_capacity l.kept;
}
