-- The rows of a container, block by block.
use Rattle.std.specs.Prelude.{◌≡◌, ◌*◌, ℕ, List, length, map, take, drop, Option, Some, MatchOption}
use Rattle.std.specs.List.{All}
use Rattle.catalog_types.specs.declared.catalogue.Container.{Container}
use Rattle.common_laws.specs.Maps.{Contents}
use Rattle.col_file.specs.Column.{IsFile}
use Rattle.col_value.specs.declared.row.Asked.{Asked}
use Rattle.col_value.specs.declared.value.Value.{Value}
use Rattle.pos_index.specs.declared.index.PosIndex.{PosIndex}
use Rattle.pos_index.specs.Index.{index_spelling, IsIndex, Fits}
use Rattle.ros_container.specs.Encodings.{Written, default_at}
use Rattle.ros_container.specs.Files.{index_of, place_of}
use Rattle.ros_container.specs.Held.{HoldsContainer}
use Rattle.ros_container.specs.Rows.{stored_values}

-- the rows of block b: 1,024, or those that are left
abbrev pub rows_in : ℕ → List Asked → List Asked
rows_in b rows = take 1024 (drop (1024 * b) rows)

-- an index of so many rows
pub record IsIndexOf (rows : ℕ) (at : PosIndex) : Type 0 where
  pub is_index : IsIndex at
  pub fits : Fits at
  pub of_rows : at.rows ≡ rows

-- each block goes from this value to this value
abbrev pub IsIndexOfOne : Value → PosIndex → Type 0
IsIndexOfOne v at = All (λ e. (e.least ≡ v) × (e.greatest ≡ v)) at.entries

-- where a disk tells its contents, the index file of column i holds this index; that of a column that isn't stored goes from its default to its
-- default
abbrev pub HasIndex : List Written → Container → ℕ → PosIndex → Option Contents → Type 0
HasIndex written k i at holds = MatchOption (place_of (length written) k i) (IsIndexOfOne (default_at written i) at) (λ place. IsFile (index_of k.base place) (index_spelling at) holds)

-- where a disk tells its contents, and the container holds rows, these are the values of column i in the rows of block b
abbrev pub AreBlock : Option Contents → List Written → Container → ℕ → ℕ → List Value → Type 0
AreBlock holds written k i b vs = (m : Contents) → holds ≡ Some m → (rows : List Asked) → HoldsContainer m written k rows → vs ≡ stored_values (length written) i (rows_in b rows)

-- and these are the epochs of the rows of block b
abbrev pub AreEpochs : Option Contents → List Written → Container → ℕ → List ℕ → Type 0
AreEpochs holds written k b epochs = (m : Contents) → holds ≡ Some m → (rows : List Asked) → HoldsContainer m written k rows → epochs ≡ map (λ a. a.ins) (rows_in b rows)
