-- A state on its way to a database ahead of it.
use Rattle.std.specs.Prelude.{ℕ, ◌≡◌, ◌≤◌, ◌+◌, ◌++◌, true, false, List, [], None, bytes_eq}
use Rattle.std.specs.List.{All}
use Rattle.std.specs.Option.{option_map_or}
use Rattle.common_laws.specs.Bags.{SameBag}
use Rattle.col_value.specs.declared.value.Value.{Value}
use Rattle.col_value.specs.declared.row.Asked.{Asked}
use Rattle.col_value.specs.declared.row.Stamped.{Stamped}
use Rattle.db_model.specs.Database.{Database, Table, table_named}
use Rattle.db_model.specs.Epochs.{all_shapes, cut, last_good}
use Rattle.db_model.specs.Events.{change_of, changes_dropped}
use Rattle.db_model.specs.State.{Changes, State, idle_sessions, own_changes, pending_deletes, pending_rows, with_changes}
use Rattle.catch_model.specs.Added.{deleted_in, inserted_in}
use Rattle.catch_model.specs.Caught.{HaveSameHistory, HaveSameTables}

-- A state has come from a database behind (`start`) up to an epoch of one ahead (`b`): it tells from the mark on what that does, cut at the epoch.
-- Cut at an epoch that the database behind had, it is that still, with the same projections, and as much is on disk. No session has changes.
pub record IsAt (mark : ℕ) (start b : Database) (epoch : ℕ) (s : State) : Type 0 where
  pub from : start.last ≤ epoch
  pub last : s.database.last ≡ epoch
  pub ahm : s.database.ahm ≡ start.ahm
  pub cuts : (k : ℕ) → k ≤ start.last → cut k s.database ≡ cut k start
  pub good : last_good s.database ≡ last_good start
  pub shapes : all_shapes s.database.tables ≡ all_shapes start.tables
  pub tables : HaveSameTables s.database b
  pub rows : HaveSameHistory mark s.database (cut epoch b)
  pub idle : s.sessions ≡ idle_sessions

-- the rows of the table of a name among some
abbrev pub rows_in : List ℕ → List Table → List Stamped
rows_in name tables = option_map_or (λ t. t.rows) (table_named name tables) []

-- The current session of such a state has pending what the next epoch inserted into some tables and deleted from them, and nothing else.
pub record Pends (mark : ℕ) (start b : Database) (epoch : ℕ) (done : List Table) (s : State) : Type 0 where
  pub at : IsAt mark start b epoch (changes_dropped s)
  pub rows : (name : List ℕ) → SameBag (pending_rows name (own_changes s)) (inserted_in (epoch + 1) (rows_in name done))
  pub deletes : (name : List ℕ) → SameBag (pending_deletes name (own_changes s)) (deleted_in (epoch + 1) (rows_in name done))
  pub others : (name : List ℕ) → table_named name done ≡ None → All (λ c. bytes_eq c.table name ≡ false) (own_changes s)

-- these rows and deletes are the current session's in a table, which it holds in mode X
abbrev pub given : List (List Value) → List Asked → Changes → Changes
given rows deletes c = record c { exclusive = true; rows = rows; deletes = c.deletes ++ deletes }

abbrev pub with_given : List ℕ → List (List Value) → List Asked → State → State
with_given name rows deletes state = with_changes (change_of name (given rows deletes) (own_changes state)) state
