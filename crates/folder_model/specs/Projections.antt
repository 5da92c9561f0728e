-- That projections hold the rows of a table, from the ancient history mark on.
use Rattle.std.specs.Prelude.{ℕ, ◌≡◌, List, [], map}
use Rattle.std.specs.Bool.{OnTrue, OnFalse}
use Rattle.common_laws.specs.Bags.{SameBag}
use Rattle.common_laws.specs.Maps.{Contents}
use Rattle.col_value.specs.declared.row.Stamped.{Stamped}
use Rattle.row_history.specs.History.{retained, cut_rows, on_columns}
use Rattle.catalog_types.specs.declared.catalogue.Projection.{Projection}
use Rattle.db_model.specs.Database.{Shape}
use Rattle.stored_rows.specs.Held.{Holds}
use Rattle.stored_rows.specs.Stored.{Projected, Stores, IsMemoryAbove}

-- which columns of its table a projection has
abbrev pub ordinals : Projection → List ℕ
ordinals p = map (λ c. c.ordinal) p.columns

-- a projection without its rows
abbrev pub shape_of : Projection → Shape
shape_of p = record { name = p.name; columns = map (λ c. (c.ordinal, c.encoding)) p.columns; sort = p.sort; fresh = p.fresh; lge = p.lge }

-- these rows of a projection are, from the mark on, the table's with its columns
abbrev pub IsHistoryOf : ℕ → Projection → List Stamped → List Stamped → Type 0
IsHistoryOf mark p stored rows = SameBag (retained mark stored) (map (on_columns (ordinals p)) (retained mark rows))

-- A projection has the table's rows, and what is in memory alone is later than what it has on disk.
pub record HasHistory (m : Contents) (mark : ℕ) (rows : List Stamped) (p : Projected) : Type 0 where
  pub stored : List Stamped
  pub are : Stores m p stored
  pub history : IsHistoryOf mark p.entry stored rows
  pub above : IsMemoryAbove p.entry.lge p

-- nothing is stored
pub record IsBare (p : Projected) : Type 0 where
  pub containers : p.entry.containers ≡ []
  pub beside : p.beside ≡ []
  pub unsaved : p.unsaved ≡ []

-- a projection that is up to date has the rows, and another one has none
pub record HasRows (m : Contents) (mark : ℕ) (rows : List Stamped) (p : Projected) : Type 0 where
  pub fresh : OnTrue p.entry.fresh (HasHistory m mark rows p)
  pub stale : OnFalse p.entry.fresh (IsBare p)

-- the files of a projection hold rows that, cut at an epoch, are the table's
abbrev pub HoldsHistory : Contents → ℕ → ℕ → List Stamped → Projection → Type 0
HoldsHistory m mark epoch rows p = (held : List Stamped) × Holds m p held × IsHistoryOf mark p (cut_rows epoch held) rows
