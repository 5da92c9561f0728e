use Rattle.std.proofs.Common.{◌≡◌, ◌*◌, ◌++◌, List, take}
use Rattle.std.specs.Prelude.{Some}
use Rattle.common_laws.specs.Maps.{Contents}
use Rattle.col_disk.specs.Moved.{Moved, NoName}
use Rattle.col_value.specs.declared.row.Asked.{Asked}
use Rattle.del_vector.specs.Marks.{epoch_at}
use Rattle.ros_container.specs.Encodings.{written_of}
use Rattle.ros_container.specs.Held.{HoldsContainer}
use Rattle.audit_rows.specs.Adding.{judged_on}
use Rattle.audit_rows.specs.Blocks.{IsOf}
use Rattle.audit_rows.proofs.collecting.add_blocks.Given as goal

abbrev pub invariant-loop-k : goal.invariant-loop-k
invariant-loop-k g l = record {
  found : IsOf (g.D.Disk.holds l.fn.disk) l.shape l.container l.columns l.opened → (m : Contents) → g.D.Disk.holds l.fn.disk ≡ Some m → (rows : List Asked) → HoldsContainer m (written_of l.shape) l.container rows
      → l.out.items ≡ l.fn.out.items ++ judged_on l.columns l.epoch l.mark 0 (epoch_at l.opened.vector.marks) (take (1024 * l.k) rows);
  kept : g.D.Disk.holds l.disk ≡ g.D.Disk.holds l.fn.disk;
  moved : Moved g.D.Disk NoName NoName l.fn.disk l.disk;
}
