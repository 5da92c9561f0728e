-- Rows that are held by their columns.
use Rattle.std.specs.Prelude.{ℕ, ◌≡◌, ◌≤◌, ◌<◌, ◌-◌, List, [], ◌∷◌, length, map, get_or, slice_index_or}
use Rattle.std.specs.List.{flat_map, range_with_len}
use Rattle.catalog_types.specs.declared.catalogue.Container.{Container}
use Rattle.common_laws.specs.Maps.{Contents}
use Rattle.col_file.specs.Held.{HoldsColumn}
use Rattle.ros_container.specs.Encodings.{Written}
use Rattle.ros_container.specs.Files.{body_of, index_of}
use Rattle.ros_container.specs.Parts.{HasValues}
use Rattle.ros_container.specs.Rows.{column_values, epoch_values, AreWide, AreWithin}
use Rattle.col_value.specs.declared.kinds.Encoding.TheVariants.{Auto}
use Rattle.col_value.specs.declared.row.Asked.{Asked}
use Rattle.col_value.specs.declared.value.Value.{Value}
use Rattle.col_value.specs.declared.value.Value.TheVariants as value

-- lists one after the other
abbrev pub joined : {X : Type 0} → List (List X) → List X
joined xss = flat_map (λ xs. xs) xss

-- blocks of which each but the last has 1,024 values, and that one no more
abbrev pub AreFull : List (List Value) → Type 0
AreFull [] = Unit {0}
AreFull (b ∷ []) = length b ≤ 1024
AreFull (b ∷ c ∷ bs) = (length b ≡ 1024) × AreFull (c ∷ bs)

-- the last block is full, if there is one
abbrev pub EndsFull : List (List Value) → Type 0
EndsFull bs = 0 < length bs → length (get_or bs (length bs - 1) []) ≡ 1024

-- the values that columns have in a row
abbrev pub row_by : List (List Value) → ℕ → List Value
row_by columns i = map (λ vs. slice_index_or vs i value.Null) columns

-- the rows with these epochs whose columns have these values
abbrev pub rows_by : List (List Value) → List ℕ → List Asked
rows_by columns epochs = map (λ i. record { row = row_by columns i; ins = get_or epochs i 0 }) (range_with_len 0 (length epochs))

-- the columns of a container at the first of some places have these values
abbrev pub HasEach : Contents → List Written → Container → List ℕ → List (List Value) → Type 0
HasEach m written k via columns = (i : ℕ) → i < length columns → HasValues m written k (get_or via i 0) (get_or columns i [])

-- The files of a container hold these rows, which have its columns at some places alone.
pub record HoldsOn (m : Contents) (written : List Written) (k : Container) (via : List ℕ) (rows : List Asked) : Type 0 where
  pub each : (i : ℕ) → i < length via → HasValues m written k (get_or via i 0) (column_values i rows)
  pub epochs : HoldsColumn Auto (body_of k.base k.stored) (index_of k.base k.stored) k.rows m (epoch_values rows)
  pub wide : AreWide (length via) rows
  pub within : AreWithin k rows
