use Rattle.std.proofs.Common.{◌≡◌, map, drop}
use Rattle.db_model.specs.Database.{is_taken}
use Rattle.statement_plan.specs.Bare.{bare_table}
use Rattle.statement_plan.proofs.frame.is_taken.Given as goal

abbrev pub invariant-loop-table : goal.invariant-loop-table
invariant-loop-table l = is_taken l.name (map bare_table (drop l.table-index l.tables)) ≡ is_taken l.name (map bare_table l.tables)
