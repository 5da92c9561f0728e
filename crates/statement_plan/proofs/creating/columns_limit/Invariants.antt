use Rattle.std.proofs.Common.{◌≡◌, drop}
use Rattle.std.specs.List.{enumerate_from}
use Rattle.sql_binding.specs.Firsts.{first_given}
use Rattle.db_model.specs.Refusing.{column_limit, columns_limit}
use Rattle.statement_plan.proofs.creating.columns_limit.Given as goal

abbrev pub invariant-loop-place : goal.invariant-loop-place
invariant-loop-place l = first_given column_limit (enumerate_from l.place (drop l.place l.columns)) ≡ columns_limit l.columns
