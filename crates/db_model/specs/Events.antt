-- What each statement makes of a state, but for the numbers of the storage.
use Rattle.std.specs.Prelude.{ℕ, ◌++◌, not, if◌then◌else◌, Bool, true, false, List, [], ◌∷◌, map, filter, length, bytes_eq}
use Rattle.std.specs.Ordering.{is_lt, nat_cmp}
use Rattle.std.specs.Cmp.Lexicographic.{slice_cmp}
use Rattle.std.specs.List.{list_any, slice_set, enumerate_from}
use Rattle.std.specs.Option.{option_map_or}
use Rattle.col_value.specs.declared.value.Value.{Value}
use Rattle.col_value.specs.declared.row.Asked.{Asked}
use Rattle.col_value.specs.declared.row.Stamped.{Stamped}
use Rattle.col_value.specs.declared.column.Column.{Column}
use Rattle.col_value.specs.declared.kinds.Encoding.{Encoding}
use Rattle.sql_tree.specs.declared.statement.AddColumn.{AddColumn}
use Rattle.sql_tree.specs.declared.statement.Delete.{Delete}
use Rattle.sql_tree.specs.declared.statement.Update.{Update}
use Rattle.sql_tree.specs.declared.statement.NewProjection.{NewProjection}
use Rattle.sql_bound.specs.declared.expr.Expr.{Expr}
use Rattle.sql_bound.specs.Values.{of_row, value_of}
use Rattle.sql_bound.specs.Outputs.{is_kept}
use Rattle.sql_binding.specs.Inserts.{narrowed}
use Rattle.sql_binding.specs.Additions.{default_value}
use Rattle.sql_binding.specs.Changes.{bound_delete, bound_update}
use Rattle.sql_binding.specs.Projections.{bound_projection}
use Rattle.row_history.specs.History.{retained}
use Rattle.db_model.specs.Database.{Shape, Table, super_name, put_table, ordinals, has_columns}
use Rattle.db_model.specs.State.{State, Changes, own_changes, with_changes, with_rows, pending_rows, has_changes, committed, change_named}
use Rattle.db_model.specs.Views.{table_found, committed_view}
use Rattle.db_model.specs.Epochs.{all_shapes}

-- the projection that CREATE TABLE makes: all columns in order, sorted by all, each block in its shortest encoding
abbrev pub first_shape : List ℕ → List Column → ℕ → Shape
first_shape name columns last = record {
  name = super_name name;
  columns = map (λ e. (e.0, Encoding.Auto)) (enumerate_from 0 columns);
  sort = map (λ e. e.0) (enumerate_from 0 columns);
  fresh = true;
  lge = last;
}

-- CREATE TABLE: a table without rows
abbrev pub empty_table : List ℕ → List Column → ℕ → Table
empty_table name columns last = record { name = name; columns = columns; rows = []; shapes = first_shape name columns last ∷ [] }

abbrev pub with_tables : List Table → State → State
with_tables tables state = record state { database = record (state.database) { tables = tables } }

abbrev pub table_created : List ℕ → List Column → State → State
table_created name columns state = with_tables (put_table (empty_table name columns state.database.last) state.database.tables) state

-- CREATE PROJECTION: a projection is up to date at once where its table retains no row from the ancient history mark on; else it is
-- stale, and nothing of it is on disk
abbrev pub is_empty_list : {X : Type 0} → List X → Bool
is_empty_list [] = true
is_empty_list (x ∷ xs) = false

abbrev pub new_shape : ℕ → ℕ → NewProjection → Table → Shape
new_shape mark last p t = record {
  name = p.name;
  columns = (bound_projection t.columns p).0;
  sort = (bound_projection t.columns p).1;
  fresh = is_empty_list (retained mark t.rows);
  lge = if is_empty_list (retained mark t.rows) then last else 0;
}

-- a projection takes its place by name
abbrev pub put_shape : Shape → List Shape → List Shape
put_shape s [] = s ∷ []
put_shape s (o ∷ os) = if is_lt (slice_cmp nat_cmp s.name o.name) then s ∷ (o ∷ os) else o ∷ put_shape s os

abbrev pub with_shape : ℕ → ℕ → NewProjection → Table → Table
with_shape mark last p t = record t { shapes = put_shape (new_shape mark last p t) t.shapes }

abbrev pub projection_created : NewProjection → State → State
projection_created p state = with_tables (change_named p.table (with_shape state.database.ahm state.database.last p) state.database.tables) state

-- DROP TABLE: the table with its projections and the session's changes in it; the mover's job is given up
abbrev pub is_not_named : List ℕ → List ℕ → Bool
is_not_named name other = not (bytes_eq other name)

abbrev pub is_of_table : List ℕ → List Table → List ℕ → Bool
is_of_table name tables projection = list_any (λ s. bytes_eq s.name projection) (option_map_or (λ e. e.1.shapes) (table_found name tables) [])

abbrev pub table_dropped : List ℕ → State → State
table_dropped name state = record (with_changes (filter (λ c. is_not_named name c.table) (own_changes state)) (with_tables (filter (λ t. is_not_named name t.name) state.database.tables) state)) {
  asked = filter (λ n. not (is_of_table name state.database.tables n)) state.asked;
  busy = 0;
}

-- DROP PROJECTION; the mover's job is given up
abbrev pub without_shape : List ℕ → Table → Table
without_shape name t = record t { shapes = filter (λ s. is_not_named name s.name) t.shapes }

abbrev pub projection_dropped : List ℕ → State → State
projection_dropped name state = record (with_tables (map (without_shape name) state.database.tables) state) { asked = filter (is_not_named name) state.asked; busy = 0 }

-- ALTER TABLE .. ADD COLUMN: the column becomes the table's last, and each row has the default in it, at every epoch. Each projection that
-- had all columns of the table gets it as its last, each block in its shortest encoding, and is sorted as it was. The mover's job is given up.
abbrev pub with_value : Value → Stamped → Stamped
with_value v s = record s { row = s.row ++ v ∷ [] }

abbrev pub with_column : Table → Shape → Shape
with_column t s = if has_columns s (ordinals t) then record s { columns = s.columns ++ (length t.columns, Encoding.Auto) ∷ [] } else s

abbrev pub widened : Column → Value → Table → Table
widened c v t = record t { columns = t.columns ++ c ∷ []; rows = map (with_value v) t.rows; shapes = map (with_column t) t.shapes }

abbrev pub column_added : AddColumn → State → State
column_added a state = record (with_tables (change_named a.table (widened a.column (default_value a)) state.database.tables) state) { busy = 0 }

-- START_REFRESH: the mover is asked for all projections that aren't up to date
abbrev pub stale_names : List Shape → List (List ℕ)
stale_names shapes = map (λ s. s.name) (filter (λ s. not s.fresh) shapes)

abbrev pub refresh_started : State → State
refresh_started state = record state { asked = stale_names (all_shapes state.database.tables) }

-- MAKE_AHM_NOW and SET_AHM_EPOCH: the ancient history mark rises
abbrev pub mark_raised : ℕ → State → State
mark_raised mark state = record state { database = record (state.database) { ahm = mark } }

-- rows join the session's pending rows: it holds the table in mode I, or in mode X where it did
abbrev pub rows_pending : List ℕ → List (List Value) → State → State
rows_pending table rows state = with_changes (with_rows table rows (own_changes state)) state

-- DELETE and UPDATE hold the table in mode X. Of the rows that the session sees those on which the condition is true go: pending rows leave
-- the pending rows, and committed ones join the pending deletes. The changed rows of an UPDATE join the pending rows.
abbrev pub marked_changes : List Expr → List Asked → List (List Value) → Changes → Changes
marked_changes keep seen rows c = record c {
  exclusive = true;
  rows = filter (λ row. not (is_kept keep row)) c.rows ++ rows;
  deletes = c.deletes ++ filter (λ a. is_kept keep a.row) seen;
}

abbrev pub untouched : List ℕ → Changes
untouched table = record { table = table; exclusive = false; rows = []; deletes = [] }

-- the changes of a table changed, which are none where the session has not touched it
abbrev pub change_of : List ℕ → (Changes → Changes) → List Changes → List Changes
change_of table change [] = change (untouched table) ∷ []
change_of table change (c ∷ changes) = if bytes_eq c.table table then change c ∷ changes else c ∷ change_of table change changes

-- the rows that the session sees on which the condition is true
abbrev pub matched_rows : List Expr → List Changes → ℕ → Table → List (List Value)
matched_rows keep changes last t =
    filter (is_kept keep) (map (λ a. a.row) (committed_view last changes t)) ++ filter (is_kept keep) (pending_rows t.name changes)

abbrev pub rows_marked : List Expr → List (List Value) → Table → State → State
rows_marked keep rows t state = with_changes (change_of t.name (marked_changes keep (committed_view state.database.last (own_changes state) t) rows) (own_changes state)) state

-- the condition of a DELETE and of an UPDATE, and what an UPDATE sets, over a table at its place
abbrev pub delete_keep : Delete → ℕ × Table → List Expr
delete_keep d e = (bound_delete e.0 e.1.columns d).keep

abbrev pub update_keep : Update → ℕ × Table → List Expr
update_keep u e = (bound_update e.0 e.1.columns u).0.keep

abbrev pub update_sets : Update → ℕ × Table → List (ℕ × Expr)
update_sets u e = (bound_update e.0 e.1.columns u).1.columns

-- a row with columns set to what expressions are worth in it
abbrev pub set_values : List (ℕ × Expr) → List Value → List Value → List Value
set_values [] old row = row
set_values (s ∷ sets) old row = set_values sets old (slice_set row s.0 (narrowed (value_of (of_row old) s.1)))

abbrev pub set_row : List (ℕ × Expr) → List Value → List Value
set_row sets row = set_values sets row row

abbrev pub deleted_count : Delete → State → ℕ × Table → ℕ
deleted_count d state e = length (matched_rows (delete_keep d e) (own_changes state) state.database.last e.1)

abbrev pub rows_deleted : Delete → State → ℕ × Table → State
rows_deleted d state e = rows_marked (delete_keep d e) [] e.1 state

abbrev pub updated_old : Update → State → ℕ × Table → List (List Value)
updated_old u state e = matched_rows (update_keep u e) (own_changes state) state.database.last e.1

abbrev pub updated_new : Update → State → ℕ × Table → List (List Value)
updated_new u state e = map (set_row (update_sets u e)) (updated_old u state e)

abbrev pub rows_updated : Update → State → ℕ × Table → State
rows_updated u state e = rows_marked (update_keep u e) (updated_new u state e) e.1 state

-- what a statement makes of the table that it names
abbrev pub on_table : List ℕ → (ℕ × Table → State) → State → State
on_table name change state = option_map_or change (table_found name state.database.tables) state

-- COMMIT: with changes it closes the next epoch; the session's changes and modes end
abbrev pub changes_committed : State → State
changes_committed state = with_changes [] (if has_changes (own_changes state) then record state { database = committed (own_changes state) state.database } else state)

-- ROLLBACK
abbrev pub changes_dropped : State → State
changes_dropped state = with_changes [] state

-- COPY: the loaded rows join the pending ones, and the session commits
abbrev pub rows_loaded : List ℕ → List (List Value) → State → State
rows_loaded table rows state = changes_committed (rows_pending table rows state)
