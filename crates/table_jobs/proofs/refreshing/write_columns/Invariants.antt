use Rattle.std.proofs.Common.{◌≡◌, ◌≤◌}
use Rattle.col_disk.specs.Moved.{Moved, NoName}
use Rattle.ros_container.specs.Encodings.{written_of}
use Rattle.container_writer.specs.Writing.{DataFrom}
use Rattle.table_jobs.proofs.Writing.{DraftsOn}
use Rattle.table_jobs.proofs.refreshing.write_columns.Given as goal

abbrev pub invariant-loop : goal.invariant-loop
invariant-loop g l = record {
  done : l.job.draft.done ≡ l.counter;
  base : l.job.draft.base ≡ l.fn.job.draft.base;
  rows : l.job.draft.rows ≡ l.fn.job.draft.rows;
  places : l.job.draft.places ≡ l.fn.job.draft.places;
  mark : l.job.mark ≡ l.fn.job.mark;
  via : l.job.via ≡ l.fn.job.via;
  draft : DraftsOn g.D.Disk (written_of l.shape) l.fn.job.draft l.fn.disk l.job.draft l.disk;
  moved : Moved g.D.Disk (DataFrom l.fn.job.draft.base) NoName l.fn.disk l.disk;
  count : g.D.Disk.faults l.fn.disk ≤ g.D.Disk.faults l.disk;
}
