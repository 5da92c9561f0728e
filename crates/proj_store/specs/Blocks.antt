-- A container that is read block by block.
use Rattle.std.specs.Prelude.{ℕ, ◌≡◌, ◌<◌, ◌+◌, ◌*◌, List, length, get_or, slice_index_or, Option, Some, None}
use Rattle.common_laws.specs.Maps.{Contents}
use Rattle.catalog_types.specs.declared.catalogue.Container.{Container}
use Rattle.col_value.specs.declared.row.Asked.{Asked}
use Rattle.pos_index.specs.declared.index.PosIndex.{PosIndex}
use Rattle.ros_container.specs.Encodings.{Written}
use Rattle.ros_container.specs.Held.{HoldsContainer}
use Rattle.container_blocks.specs.Blocks.{HasIndex}
use Rattle.wanted_rows.specs.Picked.{PicksBefore}

-- each index is that of the column at its place
abbrev pub HasIndexes : List Written → Container → Option Contents → List PosIndex → Type 0
HasIndexes written k holds ats = (i : ℕ) (d : PosIndex) → i < length ats → HasIndex written k i (get_or ats i d) holds

-- the delete epoch at a place of a list, which is empty where no row is deleted
abbrev pub in_list : List (Option ℕ) → ℕ → Option ℕ
in_list deletes i = slice_index_or deletes i None

-- where a disk tells its contents, and the container holds rows, places of block b come to those of the blocks before it
abbrev pub PicksOn : Option Contents → List Written → Container → (ℕ → Option ℕ) → ℕ → List ℕ → List ℕ → (Asked → ℕ) → (Asked → ℕ) → Type 0
PicksOn holds written k mark b old new need left =
    (m : Contents) → holds ≡ Some m → (rows : List Asked) → HoldsContainer m written k rows
    → (start : Asked → ℕ) → PicksBefore (1024 * b) mark rows old start need → PicksBefore (1024 * (b + 1)) mark rows new start left
