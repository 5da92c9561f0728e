use Rattle.std.proofs.Common.{◌≡◌, ◌+◌, ◌-◌, ◌≤◌, length, take}
use Rattle.std.specs.Vec.{vec_len, vec_capacity}
use Rattle.std.specs.List.{All}
use Rattle.col_value.specs.Order.{IsValue}
use Rattle.ros_container.specs.Rows.{column_values}
use Rattle.container_draft.specs.Placed.{all_at}
use Rattle.container_draft.proofs.values.copied.Given as goal

abbrev pub invariant-loop-place : goal.invariant-loop-place
invariant-loop-place l = record {
  room : vec_len l.out + (length l.places - l.place-index) ≤ vec_capacity l.out;
  same : l.out.items ≡ column_values l.column (all_at l.rows (take l.place-index l.places));
  values : All IsValue l.out.items;
}
