-- What the commit of an epoch inserted into a table and deleted from it, as the table's rows tell it.
use Rattle.std.specs.Prelude.{ℕ, ◌==◌, ◌||◌, nat_lt, Bool, false, List, map, filter, length}
use Rattle.std.specs.List.{list_any}
use Rattle.std.specs.Option.{option_map_or}
use Rattle.col_value.specs.declared.value.Value.{Value}
use Rattle.col_value.specs.declared.row.Asked.{Asked}
use Rattle.col_value.specs.declared.row.Stamped.{Stamped}
use Rattle.db_model.specs.Database.{Database, Table}

abbrev pub is_inserted_in : ℕ → Stamped → Bool
is_inserted_in epoch s = s.ins == epoch

abbrev pub is_deleted_in : ℕ → Stamped → Bool
is_deleted_in epoch s = option_map_or (λ e. e == epoch) s.del false

-- a row as a DELETE asks for it: its values, and the epoch that inserted it
abbrev pub asked_of : Stamped → Asked
asked_of s = record { row = s.row; ins = s.ins }

-- the rows that an epoch inserted
abbrev pub inserted_in : ℕ → List Stamped → List (List Value)
inserted_in epoch rows = map (λ s. s.row) (filter (is_inserted_in epoch) rows)

-- the rows that an epoch deleted
abbrev pub deleted_in : ℕ → List Stamped → List Asked
deleted_in epoch rows = map asked_of (filter (is_deleted_in epoch) rows)

-- an epoch inserted or deleted a row of a table
abbrev pub is_changed_in : ℕ → Table → Bool
is_changed_in epoch t = list_any (λ s. is_inserted_in epoch s || is_deleted_in epoch s) t.rows

-- an epoch inserted or deleted some row
abbrev pub has_change : Database → ℕ → Bool
has_change d epoch = list_any (is_changed_in epoch) d.tables

-- an epoch inserted more rows into one table than a session may have pending there
abbrev pub has_too_many : Database → ℕ → Bool
has_too_many d epoch = list_any (λ t. nat_lt 16777216 (length (inserted_in epoch t.rows))) d.tables
