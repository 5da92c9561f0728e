use Rattle.std.proofs.Common.{◌≡◌, ◌+◌, ◌-◌, ◌≤◌, Some, length, map, take}
use Rattle.std.specs.Vec.{vec_len, vec_capacity}
use Rattle.sql_bound.specs.Values.{number_in, of_row, value_of}
use Rattle.exec_group.specs.Columns.{row_of}
use Rattle.exec_group.proofs.lanes.from_words.Given as goal

abbrev pub invariant-loop-place : goal.invariant-loop-place
invariant-loop-place l = record {
  numbers : map Some l.out.items ≡ map (λ i. number_in (value_of (of_row (row_of l.columns i)) l.e)) (take l.place-index l.places);
  room : vec_len l.out + (length l.places - l.place-index) ≤ vec_capacity l.out;
}
