-- The rows that a DELETE and an UPDATE match in a state.
use Rattle.std.specs.Prelude.{ℕ, ◌≡◌, List, Some}
use Rattle.col_value.specs.declared.row.Asked.{Asked}
use Rattle.col_value.specs.declared.value.Value.{Value}
use Rattle.sql_tree.specs.declared.statement.Delete.{Delete}
use Rattle.sql_tree.specs.declared.statement.Update.{Update}
use Rattle.sql_bound.specs.declared.expr.Expr.{Expr}
use Rattle.db_model.specs.Database.{Table}
use Rattle.db_model.specs.State.{State, own_changes}
use Rattle.db_model.specs.Events.{delete_keep, update_keep, update_sets}
use Rattle.db_model.specs.Views.{table_found}
use Rattle.store_core.specs.Matching.{AreMatchesIn}

-- these are the rows of its table on which the conditions of a DELETE are true
pub record DeleteMatches (state : State) (d : Delete) (keep : List Expr) (committed : List Asked) (pending : List (List Value)) : Type 0 where
  pub table : ℕ × Table
  pub found : table_found d.table state.database.tables ≡ Some table
  pub conditions : keep ≡ delete_keep d table
  pub matches : AreMatchesIn keep state.database.last (own_changes state) table.1 committed pending

-- and of an UPDATE, whose table is at a place and which sets these columns
pub record UpdateMatches (state : State) (u : Update) (place : ℕ) (keep : List Expr) (sets : List (ℕ × Expr)) (committed : List Asked) (pending : List (List Value)) : Type 0 where
  pub table : ℕ × Table
  pub found : table_found u.table state.database.tables ≡ Some table
  pub at : table.0 ≡ place
  pub conditions : keep ≡ update_keep u table
  pub settings : sets ≡ update_sets u table
  pub matches : AreMatchesIn keep state.database.last (own_changes state) table.1 committed pending
