-- What a folder reopens to: tables cut at one epoch, that up to which every up-to-date projection has all its rows on disk.
use Rattle.std.specs.Prelude.{ℕ, ◌≡◌, map}
use Rattle.std.specs.Bool.{OnTrue}
use Rattle.std.specs.List.{All, AllZip}
use Rattle.common_laws.specs.Maps.{Contents}
use Rattle.catalog_types.specs.declared.catalogue.Table as kept
use Rattle.catalog_types.specs.declared.catalogue.Catalogue.{Catalogue}
use Rattle.catalog_types.specs.Reached.{least_lge}
use Rattle.catalog_root.specs.declared.found.Found.{Found}
use Rattle.catalog_root.specs.declared.found.Found.TheVariants.{Fresh, Root}
use Rattle.catalog_root.specs.Root.{Opens}
use Rattle.db_model.specs.Database.{Database, Table, empty_database}
use Rattle.db_model.specs.Epochs.{moved_shape}
use Rattle.db_model.specs.Sound.{IsSoundDatabase}
use Rattle.folder_model.specs.Projections.{shape_of, HoldsHistory}

-- a table of the catalogue, read at an epoch, is this one
pub record IsTableAt (m : Contents) (mark epoch : ℕ) (t : kept.Table) (u : Table) : Type 0 where
  pub name : u.name ≡ t.name
  pub columns : u.columns ≡ t.columns
  pub shapes : u.shapes ≡ map (λ p. moved_shape epoch (shape_of p)) t.projections
  pub rows : All (λ p. OnTrue p.fresh (HoldsHistory m mark epoch u.rows p)) t.projections

-- the catalogue and its files, cut at the least epoch that an up-to-date projection has reached, are this database
pub record IsCutOf (m : Contents) (c : Catalogue) (d : Database) : Type 0 where
  pub last : d.last ≡ least_lge c
  pub ahm : d.ahm ≡ c.ahm
  pub tables : AllZip (IsTableAt m c.ahm (least_lge c)) c.tables d.tables

abbrev pub ReopensBy : Contents → Found → Database → Type 0
ReopensBy m Fresh d = d ≡ empty_database
ReopensBy m (Root v c) d = IsCutOf m c d

-- The folder reopens to this database: by the catalogue of its greatest open gate, or to no tables where nothing was ever stored.
pub record Reopens (m : Contents) (d : Database) : Type 0 where
  pub root : Found
  pub opens : Opens m root
  pub is_cut : ReopensBy m root d
  pub sound : IsSoundDatabase d
