use Rattle.std.proofs.Common.{◌≡◌, take, map}
use Rattle.std.specs.Prelude.{Some}
use Rattle.std.specs.List.{AllZip}
use Rattle.common_laws.specs.Maps.{Contents}
use Rattle.col_disk.specs.Moved.{Looks}
use Rattle.cut_model.specs.Loaded.{AreLoadedEntries}
use Rattle.table_store.specs.Held.{projections_of}
use Rattle.store_opening.specs.Loading.{entries_of}
use Rattle.store_opening.proofs.loading.load_tables.Given as goal

abbrev pub invariant-loop-table : goal.invariant-loop-table
invariant-loop-table g l = record {
  entries : map entries_of l.out.items ≡ map (λ t. t.projections) (take l.table-index l.tables);
  loaded : (m : Contents) → g.D.Disk.holds l.fn.disk ≡ Some m → AllZip (AreLoadedEntries m) (take l.table-index l.tables) (map projections_of l.out.items);
  looks : Looks g.D.Disk l.fn.disk l.disk;
}
