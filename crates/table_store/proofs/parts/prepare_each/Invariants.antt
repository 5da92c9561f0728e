use Rattle.std.proofs.Common.{◌≡◌, take, length}
use Rattle.std.specs.Prelude.{Some}
use Rattle.std.specs.List.{AllZip}
use Rattle.common_laws.specs.Maps.{Contents}
use Rattle.col_disk.specs.Moved.{Moved, NoName}
use Rattle.table_store.specs.Held.{projections_of}
use Rattle.table_store.specs.Changing.{CanApply, IsReady, all_coming}
use Rattle.table_store.proofs.parts.prepare_each.Given as goal

abbrev pub invariant-loop-i : goal.invariant-loop-i
invariant-loop-i g l = record {
  long : length l.stores ≡ length l.fn.stores;
  prepared : (m : Contents) → g.D.Disk.holds l.fn.disk ≡ Some m → AllZip (IsReady m l.rows l.deletes) (take l.i (projections_of l.fn.stores)) (all_coming l.taker l.rows l.ready.items);
  made : length l.ready.items ≡ l.i;
  ready : AllZip CanApply (all_coming l.taker l.rows l.ready.items) (take l.i l.stores);
  stored : projections_of l.stores ≡ projections_of l.fn.stores;
  kept : g.D.Disk.holds l.disk ≡ g.D.Disk.holds l.fn.disk;
  moved : Moved g.D.Disk NoName NoName l.fn.disk l.disk;
}
