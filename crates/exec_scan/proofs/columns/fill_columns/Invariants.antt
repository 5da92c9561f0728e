use Rattle.std.proofs.Common.{◌≡◌, ◌≤◌, ◌+◌, ◌*◌, ◌-◌, min, length}
use Rattle.col_disk.specs.Moved.{Moved, NoName}
use Rattle.ros_container.specs.Encodings.{written_of}
use Rattle.exec_scan.specs.Opened.{HoldsAll}
use Rattle.exec_scan.specs.Batches.{AreLong}
use Rattle.exec_scan.specs.Counting.{cost_unread}
use Rattle.exec_scan.specs.Reading.{FillsUpto, OfBlock}
use Rattle.exec_scan.proofs.columns.fill_columns.Given as goal

abbrev pub invariant-loop-column : goal.invariant-loop-column
invariant-loop-column g l = record {
  width : length l.columns ≡ length l.fn.columns;
  long : AreLong (min 1024 (l.entry.rows - 1024 * l.k)) l.columns;
  fills : HoldsAll (written_of l.shape) l.entry (g.D.Disk.holds l.fn.disk) l.places l.indexes
      → OfBlock (FillsUpto l.places l.column l.fn.columns l.columns) (g.D.Disk.holds l.fn.disk) (written_of l.shape) l.entry l.k;
  steps : l.steps + cost_unread (length l.shape.columns) l.entry l.places l.columns ≤ l.fn.steps + cost_unread (length l.shape.columns) l.entry l.places l.fn.columns;
  kept : g.D.Disk.holds l.disk ≡ g.D.Disk.holds l.fn.disk;
  moved : Moved g.D.Disk NoName NoName l.fn.disk l.disk;
}
