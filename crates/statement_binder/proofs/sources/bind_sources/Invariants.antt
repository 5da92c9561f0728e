use Rattle.std.proofs.Common.{◌≡◌, ◌++◌, drop}
use Rattle.sql_binding.specs.Queries.{bound_sources}
use Rattle.statement_binder.proofs.sources.bind_sources.Given as goal

abbrev pub invariant-loop-table : goal.invariant-loop-table
invariant-loop-table l = l.out.items ++ bound_sources l.first (drop l.table-index l.tables) ≡ bound_sources 0 l.tables
