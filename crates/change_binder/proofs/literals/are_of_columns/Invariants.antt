use Rattle.std.proofs.Common.{◌≡◌, drop}
use Rattle.std.specs.List.{list_all}
use Rattle.sql_binding.specs.Inserts.{pairs, is_of_column}
use Rattle.change_binder.proofs.literals.are_of_columns.Given as goal

abbrev pub invariant-loop-row : goal.invariant-loop-row
invariant-loop-row l = list_all is_of_column (pairs l.columns (drop l.row-index l.rows)) ≡ list_all is_of_column (pairs l.columns l.rows)
