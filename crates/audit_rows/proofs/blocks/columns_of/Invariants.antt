use Rattle.std.proofs.Common.{◌≡◌, length, take}
use Rattle.std.specs.List.{All}
use Rattle.col_disk.specs.Moved.{Moved, NoName}
use Rattle.col_value.specs.Order.{IsValue}
use Rattle.ros_container.specs.Encodings.{written_of}
use Rattle.audit_rows.specs.Blocks.{HasIndexes, AreColumns}
use Rattle.audit_rows.proofs.blocks.columns_of.Given as goal

abbrev pub invariant-loop-i : goal.invariant-loop-i
invariant-loop-i g l = record {
  long : length l.out.items ≡ l.i;
  values : All (All IsValue) l.out.items;
  found : HasIndexes (written_of l.shape) l.container l.columns (g.D.Disk.holds l.fn.disk) l.indexes
      → AreColumns (g.D.Disk.holds l.fn.disk) (written_of l.shape) l.container l.k (take l.i l.columns) l.out.items;
  kept : g.D.Disk.holds l.disk ≡ g.D.Disk.holds l.fn.disk;
  moved : Moved g.D.Disk NoName NoName l.fn.disk l.disk;
}
