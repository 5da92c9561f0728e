use Rattle.std.proofs.Common.{◌≡◌, drop}
use Rattle.col_disk.specs.Moved.{Moved, NoName}
use Rattle.ros_container.specs.Encodings.{written_of}
use Rattle.audit_rows.specs.Collected.{Collects}
use Rattle.audit_rows.proofs.collecting.judged_rows.Given as goal

abbrev pub invariant-loop-container : goal.invariant-loop-container
invariant-loop-container g l = record {
  found : Collects (g.D.Disk.holds l.fn.disk) (written_of l.shape) l.containers (drop l.container-index l.containers) l.columns l.epoch l.mark l.out.items;
  kept : g.D.Disk.holds l.disk ≡ g.D.Disk.holds l.fn.disk;
  moved : Moved g.D.Disk NoName NoName l.fn.disk l.disk;
}
