use Rattle.std.proofs.Common.{◌≡◌, drop}
use Rattle.sql_binding.specs.Inserts.{wrong_count}
use Rattle.sql_binding.specs.Firsts.{first_given}
use Rattle.change_binder.proofs.literals.wrong_count.Given as goal

abbrev pub invariant-loop-row : goal.invariant-loop-row
invariant-loop-row l = first_given (wrong_count l.columns) (drop l.row-index l.rows) ≡ first_given (wrong_count l.columns) l.rows
