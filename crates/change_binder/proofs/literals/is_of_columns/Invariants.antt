use Rattle.std.proofs.Common.{◌≡◌, drop}
use Rattle.std.specs.Prelude.{zip}
use Rattle.std.specs.List.{list_all}
use Rattle.sql_binding.specs.Inserts.{is_of_column}
use Rattle.change_binder.proofs.literals.is_of_columns.Given as goal

abbrev pub invariant-loop-i : goal.invariant-loop-i
invariant-loop-i l = list_all is_of_column (zip (drop l.i l.columns) (drop l.i l.row)) ≡ list_all is_of_column (zip l.columns l.row)
