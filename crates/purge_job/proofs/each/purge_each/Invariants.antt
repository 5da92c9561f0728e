use Rattle.std.proofs.Common.{◌≡◌, ◌≤◌, ◌+◌, ◌*◌, take, length}
use Rattle.std.specs.Prelude.{Some}
use Rattle.std.specs.List.{All}
use Rattle.common_laws.specs.Maps.{Contents}
use Rattle.col_disk.specs.Moved.{Moved, NoName}
use Rattle.ros_container.specs.Encodings.{written_of}
use Rattle.container_writer.specs.Writing.{DataFrom}
use Rattle.moveout_job.specs.OnDisk.{IsKeptOrHasVector}
use Rattle.purge_job.specs.Purging.{CanLoad, PurgesEach}
use Rattle.purge_job.proofs.each.purge_each.Given as goal

abbrev pub invariant-loop-i : goal.invariant-loop-i
invariant-loop-i g l = record {
  purged : PurgesEach l.mark (written_of l.p.stored.entry) l.next l.after (take l.i l.p.stored.entry.containers) (take l.i l.p.stored.beside) l.out.items (g.D.Disk.holds l.fn.disk) (g.D.Disk.holds l.disk);
  loads : All (CanLoad l.p.stored.entry.columns) l.out.items;
  vectors : (m : Contents) → g.D.Disk.holds l.disk ≡ Some m → All (IsKeptOrHasVector l.after m l.p.stored.entry.containers) l.out.items;
  fewer : length l.out.items ≤ l.i;
  next : l.next ≤ l.after;
  upto : l.after ≤ l.next + l.i * (2 * length l.p.stored.entry.columns + 3);
  moved : Moved g.D.Disk (DataFrom l.next) NoName l.fn.disk l.disk;
}
