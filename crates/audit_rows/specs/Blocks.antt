-- A container that is open, and a block of it in memory.
use Rattle.std.specs.Prelude.{ℕ, ◌≡◌, ◌<◌, ◌+◌, List, [], ◌∷◌, length, map, get_or, slice_index_or, Option, Some}
use Rattle.std.specs.List.{All}
use Rattle.common_laws.specs.Maps.{Contents}
use Rattle.catalog_types.specs.declared.catalogue.Container.{Container}
use Rattle.catalog_types.specs.declared.catalogue.Projection.{Projection}
use Rattle.col_disk.specs.declared.disk.StoreFault.{StoreFault}
use Rattle.col_disk.specs.declared.disk.StoreFault.TheVariants.{Disk, Damaged, Memory}
use Rattle.col_value.specs.declared.row.Asked.{Asked}
use Rattle.col_value.specs.declared.row.Stamped.{Stamped}
use Rattle.col_value.specs.declared.value.Value.{Value}
use Rattle.col_value.specs.declared.value.Value.TheVariants as value
use Rattle.container_blocks.specs.Blocks.{rows_in, HasIndex, IsIndexOf}
use Rattle.pos_index.specs.declared.index.PosIndex.{PosIndex}
use Rattle.ros_container.specs.Encodings.{Written, written_of}
use Rattle.ros_container.specs.Held.{HoldsContainer}
use Rattle.ros_container.specs.Rows.{column_values}
use Rattle.row_history.specs.History.{asked_on}
use Rattle.stored_rows.specs.Held.{HoldsVector}
use Rattle.audit_model.specs.Rows.{HoldsHere}
use Rattle.audit_rows.specs.declared.blocks.Opened.{Opened}
use Rattle.audit_rows.specs.declared.blocks.Loaded.{Loaded}

-- the values of columns at a place
abbrev pub row_at : List (List Value) → ℕ → List Value
row_at columns i = map (λ vs. slice_index_or vs i value.Null) columns

abbrev pub asked_at : List (List Value) → ℕ → ℕ → Asked
asked_at columns i ins = record { row = row_at columns i; ins = ins }

-- the rows from a place on, of these epochs
abbrev pub asked_from : ℕ → List ℕ → List (List Value) → List Asked
asked_from i [] columns = []
asked_from i (ins ∷ stamps) columns = asked_at columns i ins ∷ asked_from (i + 1) stamps columns

-- the rows of a block
abbrev pub block_rows : Loaded → List Asked
block_rows b = asked_from 0 b.stamps.items b.columns.items

-- the index files of these columns hold these indexes
abbrev pub HasIndexes : List Written → Container → List ℕ → Option Contents → List PosIndex → Type 0
HasIndexes written k columns holds ats = (i : ℕ) (d : PosIndex) → i < length ats → HasIndex written k (get_or columns i 0) (get_or ats i d) holds

-- there is an index of the container's rows for each of these columns, and for the epochs
pub record IsOpen (k : Container) (columns : List ℕ) (o : Opened) : Type 0 where
  pub long : length o.indexes.items ≡ length columns
  pub fit : All (IsIndexOf k.rows) o.indexes.items
  pub stamps : IsIndexOf k.rows o.stamps

-- where a disk tells its contents, the files of a container hold what was read of them
pub record IsOf (holds : Option Contents) (p : Projection) (k : Container) (columns : List ℕ) (o : Opened) : Type 0 where
  pub vector : (m : Contents) → holds ≡ Some m → HoldsVector m k o.vector.marks
  pub each : HasIndexes (written_of p) k columns holds o.indexes.items
  pub stamps : HasIndex (written_of p) k (length p.columns) o.stamps holds

-- where a disk tells its contents, and the container holds rows, these are the values of columns in the rows of block b
abbrev pub AreColumns : Option Contents → List Written → Container → ℕ → List ℕ → List (List Value) → Type 0
AreColumns holds written k b columns vss =
    (m : Contents) → holds ≡ Some m → (rows : List Asked) → HoldsContainer m written k rows → vss ≡ map (λ c. column_values c (rows_in b rows)) columns

-- and these are the rows of block b, in these columns
abbrev pub IsBlock : Option Contents → Projection → Container → List ℕ → ℕ → Loaded → Type 0
IsBlock holds p k columns b loaded =
    (m : Contents) → holds ≡ Some m → (rows : List Asked) → HoldsContainer m (written_of p) k rows → block_rows loaded ≡ map (asked_on columns) (rows_in b rows)

-- where a file is blamed, the files of the container hold no rows
abbrev pub BlamesHere : Option Contents → Projection → Container → StoreFault → Type 0
BlamesHere holds p k (Damaged q) = (m : Contents) → holds ≡ Some m → (rows : List Stamped) → HoldsHere m p k rows → ⊥
BlamesHere holds p k Disk = Unit {0}
BlamesHere holds p k Memory = Unit {0}
