-- A store, as it is seen.
use Rattle.std.specs.Prelude.{List}
use Rattle.common_laws.specs.Maps.{Contents}
use Rattle.col_disk.specs.Moved.{ImageOf}
use Rattle.col_disk.specs.declared.disk.Disk.{Ghosts}
use Rattle.catalog_types.specs.declared.catalogue.Catalogue.{Catalogue}
use Rattle.db_model.specs.Database.{Database}
use Rattle.stored_rows.specs.Stored.{Projected}
use Rattle.folder_model.specs.Standing.{StandsFor}

-- the catalogue, with the newest closed epoch, and the projections of each table
pub record Seen : Type 0 where
  pub catalogue : Catalogue
  pub stores : List (List Projected)

abbrev pub seen : Catalogue → List (List Projected) → Seen
seen catalogue stores = record { catalogue = catalogue; stores = stores }

-- the store stands for a database over a disk
abbrev pub Stands : {D : Type 0} → Ghosts D → Seen → D → Database → Type 0
Stands disk s now d = StandsFor s.catalogue s.stores (disk.holds now) (ImageOf disk now) d
