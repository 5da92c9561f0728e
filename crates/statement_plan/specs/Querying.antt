-- The tables of a query's FROM items.
use Rattle.std.specs.Prelude.{ℕ, List, Option, option_map}
use Rattle.col_value.specs.declared.column.Column.{Column}
use Rattle.sql_tree.specs.declared.query.Source.{Source}
use Rattle.db_model.specs.State.{State}
use Rattle.db_model.specs.Views.{table_found}

-- the place and the columns of a FROM item's table, where it is there
abbrev pub found_of : State → Source → Option (ℕ × List Column)
found_of state s = option_map (λ e. (e.0, e.1.columns)) (table_found s.table state.database.tables)
