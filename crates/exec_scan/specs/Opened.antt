-- A container at hand: the indexes of the columns that are needed, that of its epochs, and which of its rows are deleted.
use Rattle.std.specs.Prelude.{ℕ, ◌≡◌, ◌<◌, List, Option, Some, None, slice_index_or}
use Rattle.std.specs.List.{AllZip}
use Rattle.catalog_types.specs.declared.catalogue.Container.{Container}
use Rattle.pos_index.specs.declared.index.PosIndex.{PosIndex}
use Rattle.ros_container.specs.Encodings.{Written}
use Rattle.stored_rows.specs.Stored.{Beside, mark_in}
use Rattle.container_blocks.specs.Blocks.{IsIndexOf, HasIndex}
use Rattle.common_laws.specs.Maps.{Contents}

pub record Opening : Type 0 where
  pub indexes : List (Option PosIndex)
  pub epochs : PosIndex
  pub deletes : List (Option ℕ)

-- a column that is needed has an index of so many rows, and another one has none
abbrev pub IsNeeded : ℕ → Option ℕ → Option PosIndex → Type 0
IsNeeded rows None None = Unit {0}
IsNeeded rows None (Some at) = ⊥
IsNeeded rows (Some place) None = ⊥
IsNeeded rows (Some place) (Some at) = IsIndexOf rows at

-- all indexes are of so many rows
pub record IsOpening (rows : ℕ) (places : List (Option ℕ)) (o : Opening) : Type 0 where
  pub needed : AllZip (IsNeeded rows) places o.indexes
  pub epochs_fit : IsIndexOf rows o.epochs

-- the index of a needed column is the one that it has
abbrev pub HoldsNeeded : List Written → Container → Option Contents → Option ℕ → Option PosIndex → Type 0
HoldsNeeded written k holds None index = Unit {0}
HoldsNeeded written k holds (Some place) None = ⊥
HoldsNeeded written k holds (Some place) (Some at) = HasIndex written k place at holds

-- so it is of each column
abbrev pub HoldsAll : List Written → Container → Option Contents → List (Option ℕ) → List (Option PosIndex) → Type 0
HoldsAll written k holds places indexes = AllZip (HoldsNeeded written k holds) places indexes

-- these are what the files of the container hold, and each row has its delete epoch
pub record HasOpened (written : List Written) (k : Container) (columns : ℕ) (b : Beside) (places : List (Option ℕ)) (holds : Option Contents) (o : Opening) : Type 0 where
  pub held : HoldsAll written k holds places o.indexes
  pub epochs_held : HasIndex written k columns o.epochs holds
  pub deleted : (i : ℕ) → i < k.rows → slice_index_or o.deletes i None ≡ mark_in b i
