use Rattle.std.proofs.Common.{◌≡◌, ◌≤◌, ◌+◌, ◌*◌, ◌-◌, min, length}
use Rattle.col_disk.specs.Moved.{Moved, NoName}
use Rattle.ros_container.specs.Encodings.{written_of}
use Rattle.exec_scan.specs.Opened.{HoldsAll}
use Rattle.exec_scan.specs.Batches.{AreLong}
use Rattle.exec_scan.specs.Counting.{cost_unread}
use Rattle.exec_scan.specs.Reading.{NarrowsBy, OfBlock}
use Rattle.exec_scan.proofs.columns.narrow.Given as goal

abbrev pub invariant-loop-bound : goal.invariant-loop-bound
invariant-loop-bound g l = record {
  width : length l.columns ≡ length l.fn.columns;
  long : AreLong (min 1024 (l.entry.rows - 1024 * l.k)) l.columns;
  alive : length l.alive ≡ length l.fn.alive;
  narrows : HoldsAll (written_of l.shape) l.entry (g.D.Disk.holds l.fn.disk) l.places l.indexes
      → OfBlock (NarrowsBy l.bounds l.places l.fn.columns l.columns l.fn.alive l.alive) (g.D.Disk.holds l.fn.disk) (written_of l.shape) l.entry l.k;
  steps : l.steps + cost_unread (length l.shape.columns) l.entry l.places l.columns ≤ l.fn.steps + cost_unread (length l.shape.columns) l.entry l.places l.fn.columns;
  kept : g.D.Disk.holds l.disk ≡ g.D.Disk.holds l.fn.disk;
  moved : Moved g.D.Disk NoName NoName l.fn.disk l.disk;
}
