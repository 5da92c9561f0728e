-- The rows that a statement looks at.
use Rattle.std.specs.Prelude.{ℕ, ◌==◌, ◌&&◌, if◌then◌else◌, Bool, List, [], ◌∷◌, map, filter, find, Option, option_map, bytes_eq}
use Rattle.std.specs.List.{enumerate_from, flat_map}
use Rattle.std.specs.Option.{option_map_or}
use Rattle.std.specs.Ordering.{is_eq}
use Rattle.col_value.specs.declared.value.Value.{Value}
use Rattle.col_value.specs.declared.row.Stamped.{Stamped}
use Rattle.col_value.specs.declared.row.Asked.{Asked}
use Rattle.col_value.specs.declared.column.Column.{Column}
use Rattle.col_value.specs.Order.{row_cmp}
use Rattle.sql_tree.specs.declared.query.At.{At}
use Rattle.sql_tree.specs.declared.query.Query.{Query}
use Rattle.sql_bound.specs.declared.query.BoundQuery.{BoundQuery}
use Rattle.sql_binding.specs.Queries.{bound_query}
use Rattle.row_history.specs.History.{is_visible, visible}
use Rattle.db_model.specs.Database.{Table}
use Rattle.db_model.specs.State.{State, Changes, own_changes, pending_deletes, session_view}

-- the table of a name, with its place among all
abbrev pub table_found : List ℕ → List Table → Option (ℕ × Table)
table_found name tables = find (λ e. bytes_eq e.1.name name) (enumerate_from 0 tables)

abbrev pub columns_found : List Table → List ℕ → Option (List Column)
columns_found tables name = option_map (λ e. e.1.columns) (table_found name tables)

-- The tables of a query's FROM items, each with its place; a query that isn't refused has one for each item.
abbrev pub source_tables : List Table → Query → List (ℕ × Table)
source_tables tables q = flat_map (λ s. option_map_or (λ e. e ∷ []) (table_found s.table tables) []) q.sources

-- the columns of each FROM item's table, where it is there
abbrev pub source_columns : List Table → Query → List (Option (List Column))
source_columns tables q = map (λ s. columns_found tables s.table) q.sources

abbrev pub bound_over : List (ℕ × Table) → Query → BoundQuery
bound_over found q = bound_query (map (λ e. (e.0, e.1.columns)) found) q

-- the bound tree of a query over the tables of a state
abbrev pub bound_in : State → Query → BoundQuery
bound_in state q = bound_over (source_tables state.database.tables q) q

-- The rows of a table that a query reads: what the session sees, or what was committed up to an epoch.
abbrev pub rows_read : At → State → Table → List (List Value)
rows_read At.View state t = session_view state.database.last (own_changes state) t
rows_read At.Latest state t = visible state.database.last t.rows
rows_read (At.Epoch n) state t = visible n t.rows

-- the rows of each FROM item
abbrev pub inputs : At → State → Query → List (List (List Value))
inputs at state q = map (λ e. rows_read at state e.1) (source_tables state.database.tables q)

-- of rows that are equal in values and insert epoch one is taken out
abbrev pub is_same_asked : Asked → Asked → Bool
is_same_asked a b = (a.ins == b.ins) && is_eq (row_cmp a.row b.row)

abbrev pub less_one : Asked → List Asked → List Asked
less_one gone [] = []
less_one gone (a ∷ rows) = if is_same_asked a gone then rows else a ∷ less_one gone rows

abbrev pub less : List Asked → List Asked → List Asked
less [] rows = rows
less (gone ∷ more) rows = less more (less_one gone rows)

abbrev pub asked_of : Stamped → Asked
asked_of s = record { row = s.row; ins = s.ins }

-- the committed rows of a table that a session sees, each with its insert epoch
abbrev pub committed_view : ℕ → List Changes → Table → List Asked
committed_view last changes t = less (pending_deletes t.name changes) (map asked_of (filter (is_visible last) t.rows))
