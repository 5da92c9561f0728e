use Rattle.std.proofs.Common.{◌≡◌, ◌+◌, ◌-◌, ◌≤◌, length, map, take}
use Rattle.std.specs.Vec.{vec_len, vec_capacity}
use Rattle.std.specs.List.{All}
use Rattle.col_value.specs.Order.{IsValue}
use Rattle.ros_container.specs.Rows.{epoch_values}
use Rattle.container_writer.specs.Ordered.{asked_of}
use Rattle.container_writer.proofs.values.epoch_values.Given as goal

abbrev pub invariant-loop-row : goal.invariant-loop-row
invariant-loop-row l = record {
  room : vec_len l.out + (length l.rows - l.row-index) ≤ vec_capacity l.out;
  same : l.out.items ≡ epoch_values (map asked_of (take l.row-index l.rows));
  values : All IsValue l.out.items;
}
