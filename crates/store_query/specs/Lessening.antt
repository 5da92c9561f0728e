-- Rows without those that a session has deleted.
use Rattle.std.specs.Prelude.{◌≡◌, ℕ, ◌-◌, ◌++◌, if◌then◌else◌, Bool, List, [], ◌∷◌, map, Option, is_some, slice_index_or}
use Rattle.std.specs.List.{enumerate_from, slice_get}
use Rattle.std.specs.Option.{option_map_or}
use Rattle.col_value.specs.declared.row.Asked.{Asked}
use Rattle.col_value.specs.declared.value.Value.{Value}
use Rattle.col_value.specs.declared.value.Value.TheVariants as value
use Rattle.catalog_types.specs.declared.catalogue.Table as kept
use Rattle.sql_tree.specs.declared.query.At.{At}
use Rattle.sql_bound.specs.declared.query.FromItem.{FromItem}
use Rattle.db_model.specs.State.{Changes, pending_deletes}
use Rattle.wanted_rows.specs.Wanted.{tally, Tries}

-- the pending deletes of a FROM item's table, in the session's view
abbrev pub deletes_of : At → List kept.Table → List Changes → FromItem → List Asked
deletes_of At.View tables changes f = option_map_or (λ t. pending_deletes t.name changes) (slice_get tables f.table) []
deletes_of At.Latest tables changes f = []
deletes_of (At.Epoch n) tables changes f = []

-- a row of the table with NULL in the columns that have no place
abbrev pub value_kept : List Value → ℕ × Option ℕ → Value
value_kept row e = if is_some e.1 then slice_index_or row e.0 value.Null else value.Null

abbrev pub cleared : List (Option ℕ) → List Value → List Value
cleared places row = map (value_kept row) (enumerate_from 0 places)

-- a row whose epoch doesn't matter
abbrev pub asked : List Value → Asked
asked row = record { row = row; ins = 0 }

-- how often a row stands among some
abbrev pub times : Asked → List (List Value) → ℕ
times a rows = tally a (map asked rows)

-- these are the rows without the gone ones, as far as these are among them
abbrev pub IsLess : List (List Value) → List (List Value) → List (List Value) → Type 0
IsLess gone rows less = (a : Asked) → times a less ≡ times a rows - times a gone

-- a row that is still to be taken out is counted, and another one is kept
abbrev pub Keeps : List Value → List (List Value) → List (List Value) → (Asked → ℕ) → (Asked → ℕ) → Type 0
Keeps row out next need less = (taken : Bool) × Tries taken (asked row) need less × (next ≡ (if taken then out else out ++ row ∷ []))

-- where so many of each row are to be taken out, these are left
abbrev pub AreGone : (Asked → ℕ) → List (List Value) → List (List Value) → Type 0
AreGone first rows less = (a : Asked) → times a less ≡ times a rows - first a

-- rows without the gone ones, and then the pending ones
abbrev pub HasChanges : List (List Value) → List (List Value) → List (List Value) → List (List Value) → Type 0
HasChanges gone pending rows out = (less : List (List Value)) × IsLess gone rows less × (out ≡ less ++ pending)
