-- What a COPY looks at.
use Rattle.std.specs.Prelude.{ℕ, ◌≡◌, false, List, None, Some}
use Rattle.db_model.specs.Database.{Table}
use Rattle.db_model.specs.Loading.{Files}
use Rattle.db_model.specs.Refusals.{is_large_file, locked}
use Rattle.db_model.specs.State.{State}
use Rattle.db_model.specs.Views.{table_found}

-- the table of a name is there, with no other session in the way, and so are these bytes of a load file, which aren't too many
pub record IsLoadable (state : State) (files : Files) (table file bytes : List ℕ) (e : ℕ × Table) : Type 0 where
  pub found : table_found table state.database.tables ≡ Some e
  pub free : locked state table false ≡ None
  pub held : files file ≡ Some bytes
  pub small : is_large_file bytes ≡ false
