use Rattle.std.proofs.Common.{◌≡◌, ◌≤◌, ◌+◌, take}
use Rattle.std.specs.Prelude.{Some}
use Rattle.std.specs.List.{AllZip}
use Rattle.common_laws.specs.Maps.{Contents}
use Rattle.col_disk.specs.Moved.{Moved, NoName}
use Rattle.ros_container.specs.Encodings.{written_of}
use Rattle.container_writer.specs.Writing.{DataFrom}
use Rattle.moveout_job.specs.OnDisk.{IsRemarked, KeepsOrHasVector, RemarksEach}
use Rattle.moveout_job.proofs.remarking.mark_each.Given as goal

abbrev pub invariant-loop-i : goal.invariant-loop-i
invariant-loop-i g l = record {
  held : RemarksEach (written_of l.p.stored.entry) l.next l.after (take l.i l.p.stored.entry.containers) (take l.i l.p.stored.beside) l.out.items (g.D.Disk.holds l.fn.disk) (g.D.Disk.holds l.disk);
  each : AllZip (IsRemarked l.next l.after) (take l.i l.p.stored.entry.containers) l.out.items;
  vectors : (m : Contents) → g.D.Disk.holds l.disk ≡ Some m → AllZip (KeepsOrHasVector l.after m) (take l.i l.p.stored.entry.containers) l.out.items;
  next : l.next ≤ l.after;
  upto : l.after ≤ l.next + l.i;
  moved : Moved g.D.Disk (DataFrom l.next) NoName l.fn.disk l.disk;
}
