-- The state of the program: the database and its eight sessions.
use Rattle.std.specs.Prelude.{ℕ, ◌-◌, ◌+◌, ◌||◌, ◌++◌, not, if◌then◌else◌, Bool, true, false, List, [], ◌∷◌, map, bytes_eq, slice_set}
use Rattle.std.specs.Ordering.{is_eq}
use Rattle.std.specs.List.{list_any, slice_index_or}
use Rattle.col_value.specs.declared.value.Value.{Value}
use Rattle.col_value.specs.declared.row.Asked.{Asked}
use Rattle.col_value.specs.Order.{row_cmp}
use Rattle.row_history.specs.History.{visible, inserted_at, mark_all}
use Rattle.db_model.specs.Database.{Table, Database, empty_database}

-- what a session has changed in a table since its last COMMIT or ROLLBACK, and whether it holds the table against others
pub record Changes : Type 0 where
  pub table : List ℕ
  pub exclusive : Bool
  pub rows : List (List Value)
  pub deletes : List Asked

-- The database; the changes of each of the eight sessions; the current session, from 1; the projections that wait for the
-- mover; and three numbers of the storage: the next free one, the steps left of the mover's job, and the most containers.
pub record State : Type 0 where
  pub database : Database
  pub sessions : List (List Changes)
  pub current : ℕ
  pub asked : List (List ℕ)
  pub next : ℕ
  pub busy : ℕ
  pub parts : ℕ

-- eight sessions without changes
abbrev pub idle_sessions : List (List Changes)
idle_sessions = [] ∷ [] ∷ [] ∷ [] ∷ [] ∷ [] ∷ [] ∷ [] ∷ []

-- a database over which nothing is pending, with the folder's next free number and the most containers of a projection
abbrev pub opened_with : ℕ → ℕ → Database → State
opened_with next parts d = record { database = d; sessions = idle_sessions; current = 1; asked = []; next = next; busy = 0; parts = parts }

-- the same where no number was drawn
abbrev pub opened_state : Database → State
opened_state d = opened_with 1 0 d

-- no tables, nothing pending
abbrev pub empty_state : State
empty_state = opened_state empty_database

-- the changes of the current session
abbrev pub own_changes : State → List Changes
own_changes state = slice_index_or state.sessions (state.current - 1) []

-- a state in which the current session's changes are these
abbrev pub with_changes : List Changes → State → State
with_changes changes state = record state { sessions = slice_set state.sessions (state.current - 1) changes }

-- the pending rows of a table
abbrev pub pending_rows : List ℕ → List Changes → List (List Value)
pending_rows name [] = []
pending_rows name (c ∷ changes) = if bytes_eq c.table name then c.rows else pending_rows name changes

-- the pending deletes of a table
abbrev pub pending_deletes : List ℕ → List Changes → List Asked
pending_deletes name [] = []
pending_deletes name (c ∷ changes) = if bytes_eq c.table name then c.deletes else pending_deletes name changes

-- changes of a table, with these rows more
abbrev pub joined : Changes → List (List Value) → Changes
joined c rows = record c { rows = c.rows ++ rows }

-- rows join the pending rows of a table
abbrev pub with_rows : List ℕ → List (List Value) → List Changes → List Changes
with_rows name rows [] = record { table = name; exclusive = false; rows = rows; deletes = [] } ∷ []
with_rows name rows (c ∷ changes) = if bytes_eq c.table name then joined c rows ∷ changes else c ∷ with_rows name rows changes

abbrev pub is_empty : {X : Type 0} → List X → Bool
is_empty [] = true
is_empty (x ∷ xs) = false

-- a session has pending rows or pending deletes
abbrev pub has_changes : List Changes → Bool
has_changes changes = list_any (λ c. not (is_empty c.rows) || not (is_empty c.deletes)) changes

-- of equal rows one is taken out
abbrev pub without_one : List Value → List (List Value) → List (List Value)
without_one gone [] = []
without_one gone (row ∷ rows) = if is_eq (row_cmp row gone) then rows else row ∷ without_one gone rows

abbrev pub without : List (List Value) → List (List Value) → List (List Value)
without [] rows = rows
without (gone ∷ more) rows = without more (without_one gone rows)

-- what a session sees of a table: the rows visible at the newest epoch, less its pending deletes, plus its pending rows
abbrev pub session_view : ℕ → List Changes → Table → List (List Value)
session_view last changes t = without (map (λ a. a.row) (pending_deletes t.name changes)) (visible last t.rows) ++ pending_rows t.name changes

-- a table after changes in it were committed at an epoch
abbrev pub commit_into : ℕ → Changes → Table → Table
commit_into epoch c t = record t { rows = mark_all epoch c.deletes t.rows ++ map (inserted_at epoch) c.rows }

-- the table of a name changed, and the others as they are
abbrev pub change_named : List ℕ → (Table → Table) → List Table → List Table
change_named name change [] = []
change_named name change (t ∷ tables) = if bytes_eq t.name name then change t ∷ tables else t ∷ change_named name change tables

-- tables after a session's changes were committed at an epoch, each in the table of its name
abbrev pub commit_changes : ℕ → List Changes → List Table → List Table
commit_changes epoch [] tables = tables
commit_changes epoch (c ∷ changes) tables = commit_changes epoch changes (change_named c.table (commit_into epoch c) tables)

-- a commit of changes closes the next epoch
abbrev pub committed : List Changes → Database → Database
committed changes d = record d { tables = commit_changes (d.last + 1) changes d.tables; last = d.last + 1 }
