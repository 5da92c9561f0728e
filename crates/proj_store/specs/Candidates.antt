-- Rows of a block that may be wanted.
use Rattle.std.specs.Prelude.{ℕ, suc, ◌≡◌, ◌<◌, ◌*◌, Bool, true, false, List, [], ◌∷◌, length, unwrap_or, IfSome, map, get_or, slice_get, slice_index_or, if◌then◌else◌, IsSomeAnd, Option, Some, None}
use Rattle.std.specs.Bool.{OnTrue, OnFalse}
use Rattle.std.specs.Ordering.{is_le}
use Rattle.common_laws.specs.Maps.{Contents}
use Rattle.catalog_types.specs.declared.catalogue.Container.{Container}
use Rattle.col_value.specs.Order.{value_cmp}
use Rattle.col_value.specs.declared.row.Asked.{Asked}
use Rattle.col_value.specs.declared.value.Value.{Value}
use Rattle.col_value.specs.declared.value.Value.TheVariants as value
use Rattle.pos_index.specs.declared.index.Entry.{Entry}
use Rattle.pos_index.specs.declared.index.PosIndex.{PosIndex}
use Rattle.ros_container.specs.Encodings.{Written}
use Rattle.ros_container.specs.Held.{HoldsContainer}
use Rattle.container_blocks.specs.Blocks.{rows_in, AreBlock}
use Rattle.write_store.specs.declared.held.Inserted.{Inserted}
use Rattle.wanted_rows.specs.Picked.{StandFrom, blank}

-- where a disk tells its contents, and the container holds rows, these are candidates among the rows of block b
abbrev pub AreCandidates : Option Contents → List Written → Container → (ℕ → Option ℕ) → ℕ → (Asked → ℕ) → List (Option Inserted) → Type 0
AreCandidates holds written k mark b need some = (m : Contents) → holds ≡ Some m → (rows : List Asked) → HoldsContainer m written k rows → StandFrom (1024 * b) mark rows need some

-- no row with this value in a column is wanted
abbrev pub IsUnwanted : ℕ → Value → (Asked → ℕ) → Type 0
IsUnwanted column v need = (q : Asked) → slice_index_or q.row column value.Null ≡ v → need q ≡ 0

-- a row that may be wanted stays, or its value is none of a wanted row; no other row comes
pub record Stays (column : ℕ) (v : Value) (need : Asked → ℕ) (old new : Bool) : Type 0 where
  pub only : OnTrue new (old ≡ true)
  pub gone : OnFalse new (old ≡ true → IsUnwanted column v need)

-- the same of rows with these values in a column
abbrev pub NarrowsBy : ℕ → List Value → (Asked → ℕ) → List Bool → List Bool → Type 0
NarrowsBy column values need old new = (i : ℕ) → i < length old → Stays column (get_or values i value.Null) need (get_or old i false) (get_or new i false)

-- no row from the least to the greatest value of an entry is wanted
abbrev pub MissesEntry : ℕ → (Asked → ℕ) → Entry → Type 0
MissesEntry column need e = (q : Asked) → is_le (value_cmp e.least (slice_index_or q.row column value.Null)) ≡ true → is_le (value_cmp (slice_index_or q.row column value.Null) e.greatest) ≡ true → need q ≡ 0

-- the index of a column says so of block b
abbrev pub MissesBlock : ℕ → ℕ → (Asked → ℕ) → PosIndex → Type 0
MissesBlock b column need at = IsSomeAnd (slice_get at.entries b) (MissesEntry column need)

-- and that of one of so many columns
abbrev pub MissesOne : List PosIndex → ℕ → ℕ → (Asked → ℕ) → Type 0
MissesOne indexes columns b need = (i : ℕ) × (i < columns) × IsSomeAnd (slice_get indexes i) (MissesBlock b i need)

-- where a disk tells its contents, and the container holds rows, each row of block b that may be wanted stays, or isn't wanted
pub record Narrows (holds : Option Contents) (written : List Written) (k : Container) (b : ℕ) (need : Asked → ℕ) (old new : List Bool) : Type 0 where
  pub only : (i : ℕ) → i < length old → get_or new i false ≡ true → get_or old i false ≡ true
  pub gone : (m : Contents) → holds ≡ Some m → (rows : List Asked) → HoldsContainer m written k rows → (i : ℕ) → i < length old → get_or old i false ≡ true → get_or new i false ≡ false → need (get_or (rows_in b rows) i blank) ≡ 0

-- the values at a place of columns, and the row there, where it may be wanted
abbrev pub row_of : List (List Value) → ℕ → List Value
row_of columns i = map (λ c. slice_index_or c i value.Null) columns

abbrev pub candidate : Bool → ℕ → List (List Value) → ℕ → Option Inserted
candidate alive ins columns i = if alive then Some (record { ins = ins; row = row_of columns i }) else None

-- the candidates from place i on
abbrev pub candidates_from : ℕ → List Bool → List ℕ → List (List Value) → List (Option Inserted)
candidates_from i [] stamps columns = []
candidates_from i (alive ∷ rest) stamps columns = candidate alive (get_or stamps i 0) columns i ∷ candidates_from (suc i) rest stamps columns

abbrev pub candidates : List Bool → List ℕ → List (List Value) → List (Option Inserted)
candidates alive stamps columns = candidates_from 0 alive stamps columns

-- the values of a column, none where it isn't read
abbrev pub values_in : Option (List Value) → List Value
values_in column = unwrap_or column []

abbrev pub columns_in : List (Option (List Value)) → List (List Value)
columns_in columns = map values_in columns

-- each column that is read has its values of block b
abbrev pub AreRead : Option Contents → List Written → Container → ℕ → List (Option (List Value)) → Type 0
AreRead holds written k b columns = (i : ℕ) → IfSome (get_or columns i None) (AreBlock holds written k i b)

-- where a disk tells its contents, and the container holds rows, the rows of block b that may be wanted have these values
abbrev pub HaveRows : Option Contents → List Written → Container → ℕ → List Bool → List (List Value) → Type 0
HaveRows holds written k b alive columns =
    (m : Contents) → holds ≡ Some m → (rows : List Asked) → HoldsContainer m written k rows → (i : ℕ) → i < length alive → get_or alive i false ≡ true → row_of columns i ≡ (get_or (rows_in b rows) i blank).row
