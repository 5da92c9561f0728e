-- A query that is asked in a state.
use Rattle.std.specs.Prelude.{◌≡◌, None}
use Rattle.sql_tree.specs.declared.query.At.{At}
use Rattle.sql_tree.specs.declared.query.Query.{Query}
use Rattle.sql_bound.specs.declared.query.BoundQuery.{BoundQuery}
use Rattle.db_model.specs.State.{State}
use Rattle.db_model.specs.Views.{bound_in}
use Rattle.db_model.specs.Refusing.{epoch_refusal}

-- the bound tree is that of the query in the state, and the epoch isn't refused
pub record IsAsked (state : State) (at : At) (q : Query) (b : BoundQuery) : Type 0 where
  pub tree : b ≡ bound_in state q
  pub epoch : epoch_refusal state.database.ahm state.database.last at ≡ None
