-- What a folder shows of the work of MERGEOUT and PURGE_TABLE.
use Rattle.std.specs.Prelude.{ℕ, ◌≡◌, true, List, []}
use Rattle.std.specs.Bool.{OnTrue}
use Rattle.std.specs.List.{All, Any}
use Rattle.common_laws.specs.Maps.{Contents}
use Rattle.col_value.specs.declared.row.Stamped.{Stamped}
use Rattle.row_history.specs.History.{is_retained}
use Rattle.catalog_types.specs.declared.catalogue.Catalogue.{Catalogue}
use Rattle.catalog_types.specs.declared.catalogue.Projection.{Projection}
use Rattle.catalog_types.specs.declared.catalogue.Table as kept
use Rattle.catalog_root.specs.declared.found.Found.{Found}
use Rattle.catalog_root.specs.declared.found.Found.TheVariants.{Fresh, Root}
use Rattle.catalog_root.specs.Root.{IsRoot, Opens}
use Rattle.stored_rows.specs.Held.{Holds}
use Rattle.store_core.specs.Stepping.{NoneIsDue}

-- the tables that a folder lists
abbrev pub tables_in : Found → List kept.Table
tables_in Fresh = []
tables_in (Root v c) = c.tables

-- the folder lists no up-to-date projection that has four containers of a level
pub record ShowsMerged (m : Contents) : Type 0 where
  pub root : Found
  pub opens : Opens m root
  pub merged : NoneIsDue (tables_in root)

-- the files that a projection lists hold rows, and none that was deleted at or before a mark
pub record HoldsRetained (m : Contents) (mark : ℕ) (p : Projection) : Type 0 where
  pub rows : List Stamped
  pub held : Holds m p rows
  pub retained : All (λ s. is_retained mark s ≡ true) rows

-- a table has this name, and none of its up-to-date projections holds a row that was deleted at or before a mark
abbrev pub IsPurgedIn : Contents → ℕ → List ℕ → kept.Table → Type 0
IsPurgedIn m mark name t = (t.name ≡ name) × All (λ p. OnTrue p.fresh (HoldsRetained m mark p)) t.projections

-- the folder lists such a table, by its ancient history mark
pub record ShowsPurged (name : List ℕ) (m : Contents) : Type 0 where
  pub version : ℕ
  pub catalogue : Catalogue
  pub opens : IsRoot m version catalogue
  pub purged : Any (IsPurgedIn m catalogue.ahm name) catalogue.tables
