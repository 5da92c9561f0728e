use Rattle.std.specs.Prelude.{sum_by}
use Rattle.std.proofs.Common.{◌≤◌, ◌+◌, ◌^◌, take}
use Rattle.std.specs.List.{All}
use Rattle.col_disk.specs.Moved.{Moved, NoName}
use Rattle.container_writer.specs.Writing.{DataFrom}
use Rattle.cut_job.specs.Listed.{IsTableBelow, HasLoadable, table_count}
use Rattle.container_cut.specs.Cutting.{Between}
use Rattle.cut_job.specs.Cutting.{CutsTables}
use Rattle.cut_job.proofs.catalogues.cut_tables.Given as goal

abbrev pub invariant-loop-t : goal.invariant-loop-t
invariant-loop-t g l = record {
  cut : Between (CutsTables l.epoch (take l.t-index l.tables) l.kept.items) (g.D.Disk.holds l.fn.disk) (g.D.Disk.holds l.disk);
  next : l.next ≤ l.free;
  most : l.free ≤ 2 ^ 62;
  below : All (IsTableBelow l.free) l.kept.items;
  loadable : All HasLoadable l.kept.items;
  few : l.free ≤ l.next + sum_by table_count (take l.t-index l.tables);
  moved : Moved g.D.Disk (DataFrom l.next) NoName l.fn.disk l.disk;
}
