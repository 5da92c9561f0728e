-- The epoch that a function sets the ancient history mark to.
use Rattle.std.specs.Prelude.{ℕ, ◌≡◌}
use Rattle.sql_tree.specs.declared.statement.Function.{Function}
use Rattle.db_model.specs.Epochs.{last_good}
use Rattle.db_model.specs.State.{State}

abbrev pub IsMarkOf : State → Function → ℕ → Type 0
IsMarkOf state Function.MakeAhmNow mark = mark ≡ last_good state.database
IsMarkOf state (Function.SetAhm n) mark = mark ≡ n
IsMarkOf state f mark = ⊥
