use Rattle.std.proofs.Common.{◌≡◌, take, map, length}
use Rattle.std.specs.Prelude.{Some}
use Rattle.std.specs.List.{AllZip}
use Rattle.common_laws.specs.Maps.{Contents}
use Rattle.col_disk.specs.Moved.{Moved, NoName}
use Rattle.table_store.specs.Held.{projections_of}
use Rattle.table_store.specs.Changing.{CanApply}
use Rattle.table_store.specs.Committing.{ready_with, AreReady}
use Rattle.table_store.proofs.committing.prepare_tables.Given as goal

abbrev pub invariant-loop-i : goal.invariant-loop-i
invariant-loop-i g l = record {
  long : length l.tables ≡ length l.fn.tables;
  prepared : (m : Contents) → g.D.Disk.holds l.fn.disk ≡ Some m → AreReady m l.changes (take l.i l.entries) (take l.i (map projections_of l.fn.tables)) (ready_with l.changes l.entries l.ready.items);
  made : length l.ready.items ≡ l.i;
  ready : AllZip (AllZip CanApply) (ready_with l.changes l.entries l.ready.items) (take l.i l.tables);
  stored : map projections_of l.tables ≡ map projections_of l.fn.tables;
  kept : g.D.Disk.holds l.disk ≡ g.D.Disk.holds l.fn.disk;
  moved : Moved g.D.Disk NoName NoName l.fn.disk l.disk;
}
