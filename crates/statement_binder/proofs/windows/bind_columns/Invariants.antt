use Rattle.std.proofs.Common.{◌≡◌, ◌++◌, map, drop}
use Rattle.sql_binding.specs.Trees.{column_of}
use Rattle.statement_binder.specs.Scopes.{scope_of}
use Rattle.statement_binder.proofs.windows.bind_columns.Given as goal

abbrev pub invariant-loop-column : goal.invariant-loop-column
invariant-loop-column l = l.out.items ++ map (column_of (scope_of l.scope)) (drop l.column-index l.columns) ≡ map (column_of (scope_of l.scope)) l.columns
