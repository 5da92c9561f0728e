use Rattle.std.proofs.Common.{◌≡◌}
use Rattle.col_disk.specs.Moved.{Moved, NoName}
use Rattle.del_vector.specs.Marks.{epoch_at}
use Rattle.audit_rows.specs.Blocks.{IsOf}
use Rattle.audit_rows.proofs.BlocksSearched.{BlocksGood}
use Rattle.audit_rows.proofs.searching.bad_in_blocks.Given as goal

abbrev pub invariant-loop-k : goal.invariant-loop-k
invariant-loop-k g l = record {
  good : IsOf (g.D.Disk.holds l.fn.disk) l.shape l.container l.columns l.opened → BlocksGood (g.D.Disk.holds l.fn.disk) l.epoch l.mark l.table l.shape l.container (epoch_at l.opened.vector.marks) l.k;
  kept : g.D.Disk.holds l.disk ≡ g.D.Disk.holds l.fn.disk;
  moved : Moved g.D.Disk NoName NoName l.fn.disk l.disk;
}
