-- How a batch has its rows, and which rows it shows.
use Rattle.std.specs.Prelude.{◌≡◌, ℕ, ◌≤◌, ◌<◌, ◌+◌, ◌&&◌, not, nat_le, if◌then◌else◌, Bool, false, List, [], ◌∷◌, length, map, Option, None, slice_index_or, slice_range}
use Rattle.std.specs.List.{All}
use Rattle.std.specs.Option.{IfSome, option_map_or}
use Rattle.col_value.specs.declared.value.Value.{Value}
use Rattle.col_value.specs.declared.value.Value.TheVariants as value
use Rattle.col_value.specs.Order.{IsValue}
use Rattle.exec_scan.specs.declared.batch.Form.{Form}
use Rattle.exec_scan.specs.declared.batch.Form.TheVariants as form

-- what a batch shows: rows, and the epochs that inserted them, where these are told
pub record Shown : Type 0 where
  pub rows : List (List Value)
  pub inserted : List ℕ

-- the rows of so many values that begin at these places
abbrev pub rows_at : ℕ → List Value → List ℕ → List (List Value)
rows_at width values starts = map (λ at. slice_range values at (at + width)) starts

-- so many values stand from each of these places on, and all are values of a table
pub record IsBatch (width : ℕ) (values : List Value) (starts : List ℕ) : Type 0 where
  pub within : All (λ at. at + width ≤ length values) starts
  pub valid : All IsValue values

-- a column that was read has so many values, all of a table
abbrev pub IsLong : ℕ → Option (List Value) → Type 0
IsLong count column = IfSome column (λ vs. (length vs ≡ count) × All IsValue vs)

abbrev pub AreLong : ℕ → List (Option (List Value)) → Type 0
AreLong count columns = All (IsLong count) columns

-- the value of a column in a row, NULL where the column wasn't read
abbrev pub cell : ℕ → Option (List Value) → Value
cell i column = option_map_or (λ vs. slice_index_or vs i value.Null) column value.Null

-- the row at a place
abbrev pub row_of : List (Option (List Value)) → ℕ → List Value
row_of columns i = map (cell i) columns

-- the columns have as many rows as to have one at each of these places
pub record HaveAll (columns : List (Option (List Value))) (places : List ℕ) : Type 0 where
  pub count : ℕ
  pub long : AreLong count columns
  pub within : All (λ i. i < count) places

-- the rows of a batch: made ones, or those of columns at some places
abbrev pub rows_in : Form → List (List Value)
rows_in (form.Made width values starts) = rows_at width values.items starts.items
rows_in (form.Columns columns places) = map (row_of columns.items) places.items

abbrev pub AreRows : Form → Type 0
AreRows (form.Made width values starts) = IsBatch width values.items starts.items
AreRows (form.Columns columns places) = HaveAll columns.items places.items

-- the elements of a list at whose places stands true
abbrev pub chosen : {X : Type 0} → List Bool → List X → List X
chosen [] xs = []
chosen (b ∷ bs) [] = []
chosen (b ∷ bs) (x ∷ xs) = if b then x ∷ chosen bs xs else chosen bs xs

-- A row is shown at an epoch: it was inserted up to it, which each row was that has no epoch here, and isn't deleted up to it.
abbrev pub is_shown : ℕ → List ℕ → List (Option ℕ) → ℕ → ℕ → Bool
is_shown epoch inserted deletes first i = nat_le (slice_index_or inserted i 0) epoch && not (option_map_or (λ e. nat_le e epoch) (slice_index_or deletes (first + i) None) false)
