use Rattle.std.proofs.Common.{◌≡◌, take}
use Rattle.std.specs.Prelude.{Some}
use Rattle.std.specs.List.{AllZip}
use Rattle.common_laws.specs.Maps.{Contents}
use Rattle.col_disk.specs.Moved.{Looks}
use Rattle.cut_model.specs.Loaded.{IsLoadedEntry}
use Rattle.table_store.specs.Held.{projections_of}
use Rattle.store_opening.specs.Loading.{entries_of}
use Rattle.store_opening.proofs.loading.load_table.Given as goal

abbrev pub invariant-loop-entry : goal.invariant-loop-entry
invariant-loop-entry g l = record {
  entries : entries_of l.out.items ≡ take l.entry-index l.entries;
  loaded : (m : Contents) → g.D.Disk.holds l.fn.disk ≡ Some m → AllZip (IsLoadedEntry m) (take l.entry-index l.entries) (projections_of l.out.items);
  looks : Looks g.D.Disk l.fn.disk l.disk;
}
