-- Why a new column is refused, whose table is there and has no column of its name.
use Rattle.std.specs.Prelude.{ℕ, Option, option_map}
use Rattle.sql_tree.specs.declared.refusal.Refusal.{Refusal}
use Rattle.sql_tree.specs.declared.statement.AddColumn.{AddColumn}
use Rattle.sql_binding.specs.Firsts.{first_of}
use Rattle.sql_binding.specs.Additions.{default_refusal}
use Rattle.db_model.specs.State.{State}
use Rattle.db_model.specs.Locks.{holder}
use Rattle.db_model.specs.Numbers.{spent_refusal}
use Rattle.db_model.specs.Refusing.{column_limit}

-- why a table of so many columns can't get this one: a limit, a session that holds the table, the default, or the numbers that are spent
abbrev pub addition_refusal_behind : State → ℕ → AddColumn → Option Refusal
addition_refusal_behind state columns a =
    first_of (column_limit (columns, a.column)) (first_of (option_map Refusal.Locked (holder state a.table)) (first_of (default_refusal a) (spent_refusal state)))
