use Rattle.std.specs.Prelude.{sum_by}
use Rattle.catalog_types.specs.Numbers.{container_count}
use Rattle.std.proofs.Common.{◌≤◌, ◌+◌, ◌^◌, take, length}
use Rattle.std.specs.List.{All}
use Rattle.col_disk.specs.Moved.{Moved, NoName}
use Rattle.ros_container.specs.Encodings.{written_of}
use Rattle.container_writer.specs.Writing.{DataFrom}
use Rattle.container_cut.specs.Listed.{IsBelow}
use Rattle.container_cut.specs.Cutting.{Between, CutsContainers}
use Rattle.container_cut.proofs.containers.cut_containers.Given as goal

abbrev pub invariant-loop-container : goal.invariant-loop-container
invariant-loop-container g l = record {
  cut : Between (CutsContainers (written_of l.shape) l.epoch (take l.container-index l.containers) l.kept.items) (g.D.Disk.holds l.fn.disk) (g.D.Disk.holds l.disk);
  next : l.next ≤ l.free;
  most : l.free ≤ 2 ^ 62;
  few : l.free ≤ l.next + sum_by container_count (take l.container-index l.containers);
  count : length l.kept.items ≤ l.container-index;
  upto : l.container-index ≤ length l.containers;
  below : All (IsBelow l.free l.shape.columns) l.kept.items;
  moved : Moved g.D.Disk (DataFrom l.next) NoName l.fn.disk l.disk;
}
