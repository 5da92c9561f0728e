-- A catalogue cut at the epoch up to which every up-to-date projection has all its rows on disk.
use Rattle.std.specs.Prelude.{ℕ, ◌≡◌, ◌≤◌, List, [], length}
use Rattle.std.specs.Bool.{OnTrue, OnFalse}
use Rattle.std.specs.List.{AllZip}
use Rattle.common_laws.specs.Bags.{SameBag}
use Rattle.common_laws.specs.Maps.{Contents}
use Rattle.col_value.specs.declared.row.Stamped.{Stamped}
use Rattle.row_history.specs.History.{retained, cut_rows}
use Rattle.catalog_types.specs.declared.catalogue.Projection.{Projection}
use Rattle.catalog_types.specs.declared.catalogue.Table.{Table}
use Rattle.catalog_types.specs.declared.catalogue.Catalogue.{Catalogue}
use Rattle.catalog_types.specs.Reached.{least_lge}
use Rattle.db_model.specs.Epochs.{moved_shape}
use Rattle.stored_rows.specs.Held.{Holds}
use Rattle.folder_model.specs.Projections.{shape_of}

-- the rows that the old files of an entry hold, cut at an epoch, are in the new files of another, from the mark on
abbrev pub CutsRows : Contents → Contents → ℕ → ℕ → Projection → Projection → Type 0
CutsRows m n mark epoch p q =
    (old : List Stamped) → Holds m p old → (new : List Stamped) × Holds n q new × SameBag (retained mark new) (retained mark (cut_rows epoch old))

-- An entry after a cut: one that is up to date has its rows cut, and has them on disk up to the epoch; another one has none. There are no
-- more containers, and as many were born.
pub record IsCutEntry (m n : Contents) (mark epoch : ℕ) (p q : Projection) : Type 0 where
  pub shape : shape_of q ≡ moved_shape epoch (shape_of p)
  pub rows : OnTrue p.fresh (CutsRows m n mark epoch p q)
  pub stale : OnFalse p.fresh (q.containers ≡ [])
  pub fewer : length q.containers ≤ length p.containers
  pub born : q.born ≡ p.born

pub record IsCutTable (m n : Contents) (mark epoch : ℕ) (t u : Table) : Type 0 where
  pub name : u.name ≡ t.name
  pub columns : u.columns ≡ t.columns
  pub projections : AllZip (IsCutEntry m n mark epoch) t.projections u.projections

-- a catalogue over the new files is that of the old ones, cut at the least epoch that an up-to-date projection has reached
pub record IsCutRoot (m n : Contents) (c r : Catalogue) : Type 0 where
  pub last : r.last ≡ least_lge c
  pub ahm : r.ahm ≡ c.ahm
  pub tables : AllZip (IsCutTable m n c.ahm (least_lge c)) c.tables r.tables
