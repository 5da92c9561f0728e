use Rattle.std.proofs.Common.{◌≡◌, None, take, fold}
use Rattle.catalog_types.specs.Reached.{earlier, table_reached}
use Rattle.statement_plan.proofs.reached.all_reached.Given as goal

abbrev pub invariant-loop-table : goal.invariant-loop-table
invariant-loop-table l = l.least ≡ fold (λ e t. earlier e (table_reached t)) None (take l.table-index l.tables)
