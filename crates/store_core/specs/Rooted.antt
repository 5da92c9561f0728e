-- That a disk opens to the tables of a store.
use Rattle.std.specs.Prelude.{◌≡◌, List}
use Rattle.catalog_types.specs.declared.catalogue.Table as kept
use Rattle.catalog_root.specs.declared.found.Found.{Found}
use Rattle.catalog_root.specs.declared.found.Found.TheVariants.{Fresh, Root}

-- it has a root with these tables
abbrev pub IsRootWith : List kept.Table → Found → Type 0
IsRootWith tables Fresh = ⊥
IsRootWith tables (Root v c) = c.tables ≡ tables
