-- Why each statement is refused, if it is. Each reason is looked for in the whole statement before the next one.
use Rattle.std.specs.Prelude.{ℕ, ◌≡◌, ◌⊎◌, ◌+◌, ◌==◌, ◌&&◌, ◌||◌, not, nat_lt, nat_le, Bool, true, false, List, length, map, filter, find, Option, Some, None, option_map, option_and_then, bytes_eq}
use Rattle.std.specs.List.{list_all, list_any, enumerate_from, flat_map}
use Rattle.std.specs.Option.{option_map_or}
use Rattle.col_value.specs.declared.value.Value.{Value}
use Rattle.col_value.specs.declared.wide.Wide.{Wide}
use Rattle.col_value.specs.declared.column.Column.{Column}
use Rattle.sql_tree.specs.declared.statement.Function.{Function}
use Rattle.sql_tree.specs.declared.statement.AddColumn.{AddColumn}
use Rattle.sql_tree.specs.declared.statement.Insert.{Insert}
use Rattle.sql_tree.specs.declared.statement.Delete.{Delete}
use Rattle.sql_tree.specs.declared.statement.Update.{Update}
use Rattle.sql_tree.specs.declared.statement.NewProjection.{NewProjection}
use Rattle.sql_tree.specs.declared.statement.Statement.{Statement}
use Rattle.sql_tree.specs.declared.query.At.{At}
use Rattle.sql_tree.specs.declared.query.Query.{Query}
use Rattle.sql_tree.specs.declared.refusal.Refusal.{Refusal}
use Rattle.sql_tree.specs.declared.refusal.Which.{Which}
use Rattle.sql_bound.specs.declared.expr.Expr.{Expr}
use Rattle.sql_bound.specs.declared.query.BoundQuery.{BoundQuery}
use Rattle.sql_bound.specs.Values.{of_row, value_of}
use Rattle.sql_bound.specs.Outputs.{is_kept, IsSumTooGreat}
use Rattle.sql_binding.specs.Firsts.{first_of, refused_where}
use Rattle.sql_binding.specs.Queries.{query_refusal}
use Rattle.sql_binding.specs.Changes.{delete_refusal, update_refusal}
use Rattle.sql_binding.specs.Projections.{projection_name_refusal, projection_form_refusal, name_limit}
use Rattle.sql_binding.specs.Additions.{addition_refusal, default_refusal}
use Rattle.sql_binding.specs.Inserts.{insert_refusal, stored_refusal, first_such, is_out_of_range, is_too_long, is_refused_null}
use Rattle.db_model.specs.Database.{Database, Table, is_super}
use Rattle.db_model.specs.State.{State, own_changes, pending_rows}
use Rattle.db_model.specs.Locks.{conflict, holder}
use Rattle.db_model.specs.Views.{table_found, columns_found, source_columns, bound_in, inputs}
use Rattle.db_model.specs.Epochs.{last_good, rises}
use Rattle.db_model.specs.Numbers.{are_spent, spent_refusal}
use Rattle.db_model.specs.Events.{is_of_table, update_keep, update_sets, updated_old, rows_pending}
use Rattle.db_model.specs.Loading.{Files, Load, Loads}
use Rattle.db_model.specs.Mover.{MovesAll, RaisesAll, RefreshesAll}
use Rattle.db_model.specs.Refusing.{if_taken, create_refusal, column_limit, rows_limit, epoch_refusal, commit_refusal}

-- another session holds the table in a mode that excludes the one that is wanted
abbrev pub locked : State → List ℕ → Bool → Option Refusal
locked state name want = option_map Refusal.Locked (conflict state name want)

abbrev pub table_created_refusal : State → List ℕ → List Column → Option Refusal
table_created_refusal state name columns = first_of (create_refusal state.database.tables name columns) (spent_refusal state)

-- a table has at most 16 projections; that is passed at the new name, before its length
abbrev pub projections_limit : Table → Option Refusal
projections_limit t = refused_where (nat_le 16 (length t.shapes)) (Refusal.Limit Which.Projections 16)

abbrev pub projection_refusal_over : NewProjection → Table → Option Refusal
projection_refusal_over p t = first_of (projection_form_refusal t.columns p) (first_of (projections_limit t) (name_limit p.name))

abbrev pub projection_created_refusal : State → NewProjection → Option Refusal
projection_created_refusal state p =
    first_of (projection_name_refusal (columns_found state.database.tables p.table) p)
    (first_of (option_map Refusal.Exists (if_taken state.database.tables p.name))
    (first_of (option_and_then (λ e. projection_refusal_over p e.1) (table_found p.table state.database.tables)) (spent_refusal state)))

abbrev pub unknown_table_refusal : State → List ℕ → Option Refusal
unknown_table_refusal state name = option_map_or (λ e. None) (table_found name state.database.tables) (Some (Refusal.UnknownTable name))

abbrev pub table_dropped_refusal : State → List ℕ → Option Refusal
table_dropped_refusal state name = first_of (unknown_table_refusal state name) (first_of (locked state name true) (spent_refusal state))

-- the table that has the projection of a name
abbrev pub owner : List ℕ → List Table → Option Table
owner name tables = find (λ t. list_any (λ s. bytes_eq s.name name) t.shapes) tables

-- no other up-to-date super projection of the table remains
abbrev pub is_last_super : List ℕ → Table → Bool
is_last_super name t = list_all (λ s. bytes_eq s.name name) (filter (is_super t) t.shapes)

abbrev pub last_super_refusal : List ℕ → Option Table → Option Refusal
last_super_refusal name None = Some (Refusal.UnknownProjection name)
last_super_refusal name (Some t) = refused_where (is_last_super name t) (Refusal.LastSuper name)

abbrev pub projection_dropped_refusal : State → List ℕ → Option Refusal
projection_dropped_refusal state name = first_of (last_super_refusal name (owner name state.database.tables)) (spent_refusal state)

-- the limit on pending rows of a table, where so many rows join them
abbrev pub joining_limit : State → List ℕ → ℕ → Option Refusal
joining_limit state table more = rows_limit (length (pending_rows table (own_changes state)) + more)

-- what the rows hold is looked at behind the limit on rows and behind the lock
abbrev pub rows_inserted_refusal : State → Insert → Option Refusal
rows_inserted_refusal state i =
    first_of (insert_refusal (columns_found state.database.tables i.table) i)
    (first_of (joining_limit state i.table (length i.rows))
    (first_of (locked state i.table false) (option_and_then (λ columns. stored_refusal columns i) (columns_found state.database.tables i.table))))

abbrev pub rows_deleted_refusal : State → Delete → Option Refusal
rows_deleted_refusal state d = first_of (delete_refusal (columns_found state.database.tables d.table) d) (locked state d.table true)

-- an ALTER TABLE needs its table free of every session, the current one too
abbrev pub column_added_refusal : State → AddColumn → Option Refusal
column_added_refusal state a =
    first_of (addition_refusal (columns_found state.database.tables a.table) a)
    (first_of (option_and_then (λ columns. column_limit (length columns, a.column)) (columns_found state.database.tables a.table))
    (first_of (option_map Refusal.Locked (holder state a.table)) (first_of (default_refusal a) (spent_refusal state))))

-- each value that an UPDATE sets, with its column: the columns in table order, and for each the matched rows
abbrev pub set_pairs : List (ℕ × Expr) → List (List Value) → ℕ × Column → List (Column × Wide)
set_pairs sets rows c = flat_map (λ s. map (λ row. (c.1, value_of (of_row row) s.1)) rows) (filter (λ s. s.0 == c.0) sets)

abbrev pub all_pairs : List (ℕ × Expr) → List (List Value) → List Column → List (Column × Wide)
all_pairs sets rows columns = flat_map (set_pairs sets rows) (enumerate_from 0 columns)

-- values that can't be stored: a number out of range, a text too long, a NULL that is refused
abbrev pub pairs_refusal : List (Column × Wide) → Option Refusal
pairs_refusal pairs =
    first_of (option_map Refusal.IntegerOutOfRange (first_such is_out_of_range pairs))
    (first_of (option_map Refusal.TextTooLong (first_such is_too_long pairs)) (option_map Refusal.NullRefused (first_such is_refused_null pairs)))

-- the pending rows that an UPDATE leaves as they are
abbrev pub rows_left : State → Update → ℕ × Table → List (List Value)
rows_left state u e = filter (λ row. not (is_kept (update_keep u e) row)) (pending_rows u.table (own_changes state))

abbrev pub update_refusal_over : State → Update → ℕ × Table → Option Refusal
update_refusal_over state u e =
    first_of (rows_limit (length (rows_left state u e) + length (updated_old u state e)))
    (first_of (locked state u.table true) (pairs_refusal (all_pairs (update_sets u e) (updated_old u state e) e.1.columns)))

abbrev pub rows_updated_refusal : State → Update → Option Refusal
rows_updated_refusal state u =
    first_of (update_refusal (columns_found state.database.tables u.table) u) (option_and_then (update_refusal_over state u) (table_found u.table state.database.tables))

-- a load file has at most 64 MiB
abbrev pub is_large_file : List ℕ → Bool
is_large_file bytes = nat_lt 67108864 (length bytes)

-- a COPY needs its table, and no other session in its way, before its file is looked for
abbrev pub copy_table_refusal : State → List ℕ → Option Refusal
copy_table_refusal state name = first_of (unknown_table_refusal state name) (locked state name false)

-- good rows meet the limit on rows; their commit closes an epoch
abbrev pub load_refusal : State → List ℕ → Load → Option Refusal
load_refusal state table (Load.Wrong line field) = Some (Refusal.BadLoadLine line field)
load_refusal state table (Load.Rows rows) =
    first_of (joining_limit state table (length rows)) (commit_refusal (rows_pending table rows state))

abbrev pub LoadRefuses : State → ℕ × Table → List ℕ → Bool → Option Refusal → Type 0
LoadRefuses state e bytes true why = why ≡ Some Refusal.FileTooLarge
LoadRefuses state e bytes false why = (load : Load) × Loads e.1.columns bytes load × (why ≡ load_refusal state e.1.name load)

abbrev pub FileRefuses : State → ℕ × Table → Option (List ℕ) → Option Refusal → Type 0
FileRefuses state e None why = why ≡ Some Refusal.NoFile
FileRefuses state e (Some bytes) why = LoadRefuses state e bytes (is_large_file bytes) why

abbrev pub UnlockedRefuses : Option Refusal → State → ℕ × Table → Option (List ℕ) → Option Refusal → Type 0
UnlockedRefuses (Some refusal) state e held why = why ≡ Some refusal
UnlockedRefuses None state e held why = FileRefuses state e held why

abbrev pub CopyRefuses : State → List ℕ → Option (ℕ × Table) → Option (List ℕ) → Option Refusal → Type 0
CopyRefuses state table None held why = why ≡ Some (Refusal.UnknownTable table)
CopyRefuses state table (Some e) held why = UnlockedRefuses (locked state table false) state e held why

-- A sum that is too great is a fact of the rows, and looked at last.
abbrev pub SumRefuses : Option Refusal → BoundQuery → List (List (List Value)) → Option Refusal → Type 0
SumRefuses (Some refusal) q rows why = why ≡ Some refusal
SumRefuses None q rows why = (IsSumTooGreat q rows × (why ≡ Some Refusal.SumOutOfRange)) ⊎ ((IsSumTooGreat q rows → ⊥) × (why ≡ None))

abbrev pub query_refusal_in : State → Query → Option Refusal
query_refusal_in state q = query_refusal (source_columns state.database.tables q) q

abbrev pub SelectRefuses : State → At → Query → Option Refusal → Type 0
SelectRefuses state at q why =
    SumRefuses (first_of (query_refusal_in state q) (epoch_refusal state.database.ahm state.database.last at)) (bound_in state q) (inputs at state q) why

-- a moveout of all is refused where one of its jobs would draw and the numbers are spent
abbrev pub MoveoutRefuses : State → Option Refusal → Type 0
MoveoutRefuses state why = (stopped : Bool) × (new : State) × MovesAll state stopped new × (why ≡ refused_where stopped Refusal.NumbersSpent)

-- as is a function of several jobs, behind what refuses it before
abbrev pub JobsRefuse : (Bool → State → Type 0) → Option Refusal → Type 0
JobsRefuse Run why = (stopped : Bool) × (new : State) × Run stopped new × (why ≡ refused_where stopped Refusal.NumbersSpent)

abbrev pub TableJobsRefuse : Option Refusal → (Bool → State → Type 0) → Option Refusal → Type 0
TableJobsRefuse (Some refusal) Run why = why ≡ Some refusal
TableJobsRefuse None Run why = JobsRefuse Run why

-- the ancient history mark neither falls nor passes the last good epoch
abbrev pub mark_refusal : ℕ → Database → Option Refusal
mark_refusal mark d = refused_where (nat_lt mark d.ahm || nat_lt (last_good d) mark) (Refusal.BadMark mark d.ahm (last_good d))

-- a mark that rises draws
abbrev pub raise_refusal : ℕ → State → Option Refusal
raise_refusal mark state = refused_where (rises mark state.database && are_spent state) Refusal.NumbersSpent

-- why a function is refused
abbrev pub CallRefuses : State → Function → Option Refusal → Type 0
CallRefuses state Function.Lge why = why ≡ None
CallRefuses state Function.Ahm why = why ≡ None
CallRefuses state Function.Current why = why ≡ None
CallRefuses state Function.MakeAhmNow why = why ≡ raise_refusal (last_good state.database) state
CallRefuses state (Function.SetAhm n) why = why ≡ first_of (mark_refusal n state.database) (raise_refusal n state)
CallRefuses state Function.Moveout why = MoveoutRefuses state why
CallRefuses state Function.Mergeout why = JobsRefuse (RaisesAll (λ s. true) state) why
CallRefuses state (Function.Purge table) why =
    TableJobsRefuse (unknown_table_refusal state table) (RaisesAll (λ s. is_of_table table state.database.tables s.name) state) why
CallRefuses state (Function.Refresh table) why = TableJobsRefuse (unknown_table_refusal state table) (RefreshesAll table state) why
CallRefuses state Function.StartRefresh why = why ≡ None

-- why a statement is refused over these load files, or that it isn't
abbrev pub Refuses : State → Files → Statement → Option Refusal → Type 0
Refuses state files (Statement.CreateTable name columns) why = why ≡ table_created_refusal state name columns
Refuses state files (Statement.CreateProjection p) why = why ≡ projection_created_refusal state p
Refuses state files (Statement.DropTable name) why = why ≡ table_dropped_refusal state name
Refuses state files (Statement.DropProjection name) why = why ≡ projection_dropped_refusal state name
Refuses state files (Statement.Insert i) why = why ≡ rows_inserted_refusal state i
Refuses state files (Statement.Delete d) why = why ≡ rows_deleted_refusal state d
Refuses state files (Statement.Update u) why = why ≡ rows_updated_refusal state u
Refuses state files (Statement.AddColumn a) why = why ≡ column_added_refusal state a
Refuses state files (Statement.Copy table file) why = CopyRefuses state table (table_found table state.database.tables) (files file) why
Refuses state files Statement.Commit why = why ≡ commit_refusal state
Refuses state files Statement.Rollback why = why ≡ None
Refuses state files (Statement.Select at q) why = SelectRefuses state at q why
Refuses state files (Statement.Explain q) why = why ≡ query_refusal_in state q
Refuses state files (Statement.Call f) why = CallRefuses state f why
Refuses state files (Statement.Session n) why = why ≡ None
Refuses state files Statement.Step why = why ≡ None
