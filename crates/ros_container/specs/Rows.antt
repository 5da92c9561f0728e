-- The rows of a container, column by column.
use Rattle.std.specs.Prelude.{◌≡◌, ◌≤◌, ℕ, slice_index_or, pos, List, length, map, ◌==◌, if◌then◌else◌}
use Rattle.std.specs.List.{All}
use Rattle.catalog_types.specs.declared.catalogue.Container.{Container}
use Rattle.col_value.specs.Order.{IsRow}
use Rattle.col_value.specs.declared.row.Asked.{Asked}
use Rattle.col_value.specs.declared.value.Value.{Value}
use Rattle.col_value.specs.declared.value.Value.TheVariants as value

-- the values of column i
abbrev pub column_values : ℕ → List Asked → List Value
column_values i rows = map (λ a. slice_index_or a.row i value.Null) rows

-- the epochs that inserted the rows, as numbers
abbrev pub epoch_values : List Asked → List Value
epoch_values rows = map (λ a. value.Int (pos a.ins)) rows

-- what column i of a container of so many columns holds: the epochs stand behind the others
abbrev pub stored_values : ℕ → ℕ → List Asked → List Value
stored_values columns i rows = if i == columns then epoch_values rows else column_values i rows

-- rows of so many values
abbrev pub AreWide : ℕ → List Asked → Type 0
AreWide columns rows = All (λ a. length a.row ≡ columns) rows

-- rows of values of a table
abbrev pub AreRows : List Asked → Type 0
AreRows rows = All (λ a. IsRow a.row) rows

-- an epoch from the container's least to its greatest
abbrev pub IsWithin : Container → ℕ → Type 0
IsWithin k epoch = (k.least_epoch ≤ epoch) × (epoch ≤ k.greatest_epoch)

-- rows of such epochs
abbrev pub AreWithin : Container → List Asked → Type 0
AreWithin k rows = All (λ a. IsWithin k a.ins) rows

-- the value is such an epoch
abbrev pub IsEpochOf : Container → Value → Type 0
IsEpochOf k v = (epoch : ℕ) × (v ≡ value.Int (pos epoch)) × IsWithin k epoch
