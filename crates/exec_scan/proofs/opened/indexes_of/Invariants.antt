use Rattle.std.proofs.Common.{◌≡◌, take}
use Rattle.std.specs.List.{AllZip}
use Rattle.col_disk.specs.Moved.{Moved, NoName}
use Rattle.ros_container.specs.Encodings.{written_of}
use Rattle.exec_scan.specs.Opened.{IsNeeded, HoldsNeeded}
use Rattle.exec_scan.proofs.opened.indexes_of.Given as goal

abbrev pub invariant-loop-place : goal.invariant-loop-place
invariant-loop-place g l = record {
  needed : AllZip (IsNeeded l.entry.rows) (take l.place-index l.places) l.out.items;
  held : AllZip (HoldsNeeded (written_of l.shape) l.entry (g.D.Disk.holds l.fn.disk)) (take l.place-index l.places) l.out.items;
  kept : g.D.Disk.holds l.disk ≡ g.D.Disk.holds l.fn.disk;
  moved : Moved g.D.Disk NoName NoName l.fn.disk l.disk;
}
