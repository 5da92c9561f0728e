-- What an opening reads, and which file it blames.
use Rattle.std.specs.Prelude.{◌≡◌, List, map, Option}
use Rattle.std.specs.List.{Any}
use Rattle.common_laws.specs.Maps.{Contents}
use Rattle.col_disk.specs.declared.disk.StoreFault.{StoreFault}
use Rattle.col_disk.specs.declared.disk.StoreFault.TheVariants.{Disk, Damaged, Memory}
use Rattle.catalog_types.specs.declared.catalogue.Projection.{Projection}
use Rattle.catalog_types.specs.declared.catalogue.Table.{Table}
use Rattle.catalog_types.specs.declared.catalogue.Catalogue.{Catalogue}
use Rattle.proj_store.specs.Loaded.{Loaded}
use Rattle.proj_store.specs.Reading.{BlamesLoad}
use Rattle.table_store.specs.Held.{projections_of}

abbrev pub entries_of : List Loaded → List Projection
entries_of ps = map (λ p. p.stored.entry) ps

-- the projections of each table have their entries in the catalogue
abbrev pub AreEntriesOf : Catalogue → List (List Loaded) → Type 0
AreEntriesOf root tables = map (λ ps. map (λ p. p.entry) ps) (map projections_of tables) ≡ map (λ t. t.projections) root.tables

-- a Damaged names the delete vector of a container that has none; no other fault says anything
abbrev pub BlamesEntries : List Projection → Option Contents → StoreFault → Type 0
BlamesEntries entries holds (Damaged q) = Any (λ p. BlamesLoad p.containers holds (Damaged q)) entries
BlamesEntries entries holds Disk = Unit {0}
BlamesEntries entries holds Memory = Unit {0}

abbrev pub BlamesTables : List Table → Option Contents → StoreFault → Type 0
BlamesTables tables holds (Damaged q) = Any (λ t. BlamesEntries t.projections holds (Damaged q)) tables
BlamesTables tables holds Disk = Unit {0}
BlamesTables tables holds Memory = Unit {0}
