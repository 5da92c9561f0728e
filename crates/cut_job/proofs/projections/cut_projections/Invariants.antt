use Rattle.std.specs.Prelude.{sum_by}
use Rattle.catalog_types.specs.Numbers.{number_count}
use Rattle.proj_store.specs.Sound.{IsLoadable}
use Rattle.std.proofs.Common.{◌≤◌, ◌+◌, ◌^◌, take}
use Rattle.std.specs.List.{All}
use Rattle.col_disk.specs.Moved.{Moved, NoName}
use Rattle.container_writer.specs.Writing.{DataFrom}
use Rattle.container_cut.specs.Listed.{IsListedBelow}
use Rattle.container_cut.specs.Cutting.{Between}
use Rattle.cut_job.specs.Cutting.{CutsProjections}
use Rattle.cut_job.proofs.projections.cut_projections.Given as goal

abbrev pub invariant-loop-p : goal.invariant-loop-p
invariant-loop-p g l = record {
  cut : Between (CutsProjections l.epoch (take l.p-index l.projections) l.kept.items) (g.D.Disk.holds l.fn.disk) (g.D.Disk.holds l.disk);
  next : l.next ≤ l.free;
  most : l.free ≤ 2 ^ 62;
  below : All (IsListedBelow l.free) l.kept.items;
  loadable : All IsLoadable l.kept.items;
  few : l.free ≤ l.next + sum_by number_count (take l.p-index l.projections);
  moved : Moved g.D.Disk (DataFrom l.next) NoName l.fn.disk l.disk;
}
