-- The projections of a catalogue, read from the disk.
use Rattle.std.specs.Prelude.{◌≡◌, List}
use Rattle.std.specs.List.{AllZip}
use Rattle.common_laws.specs.Maps.{Contents}
use Rattle.catalog_types.specs.declared.catalogue.Projection.{Projection}
use Rattle.catalog_types.specs.declared.catalogue.Table.{Table}
use Rattle.catalog_types.specs.declared.catalogue.Catalogue.{Catalogue}
use Rattle.stored_rows.specs.Stored.{Projected, IsLoaded}

-- a projection that was read for this entry
pub record IsLoadedEntry (m : Contents) (p : Projection) (q : Projected) : Type 0 where
  pub entry : q.entry ≡ p
  pub loaded : IsLoaded m q

abbrev pub AreLoadedEntries : Contents → Table → List Projected → Type 0
AreLoadedEntries m t ps = AllZip (IsLoadedEntry m) t.projections ps

-- each projection of each table was read, in the catalogue's order
abbrev pub LoadedStores : Contents → Catalogue → List (List Projected) → Type 0
LoadedStores m c stores = AllZip (AreLoadedEntries m) c.tables stores
