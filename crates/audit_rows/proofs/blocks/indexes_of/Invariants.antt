use Rattle.std.proofs.Common.{◌≡◌, length}
use Rattle.std.specs.List.{All}
use Rattle.col_disk.specs.Moved.{Moved, NoName}
use Rattle.ros_container.specs.Encodings.{written_of}
use Rattle.container_blocks.specs.Blocks.{IsIndexOf}
use Rattle.audit_rows.specs.Blocks.{HasIndexes}
use Rattle.audit_rows.proofs.blocks.indexes_of.Given as goal

abbrev pub invariant-loop-i : goal.invariant-loop-i
invariant-loop-i g l = record {
  long : length l.out.items ≡ l.i;
  fit : All (IsIndexOf l.container.rows) l.out.items;
  held : HasIndexes (written_of l.shape) l.container l.columns (g.D.Disk.holds l.fn.disk) l.out.items;
  kept : g.D.Disk.holds l.disk ≡ g.D.Disk.holds l.fn.disk;
  moved : Moved g.D.Disk NoName NoName l.fn.disk l.disk;
}
