use Rattle.std.proofs.Common.{◌≡◌, ◌++◌, map, drop}
use Rattle.sql_binding.specs.Trees.{column_of}
use Rattle.statement_binder.specs.Scopes.{scope_of}
use Rattle.statement_binder.proofs.windows.bind_keys.Given as goal

abbrev pub invariant-loop-key : goal.invariant-loop-key
invariant-loop-key l = l.out.items ++ map (λ k. (column_of (scope_of l.scope) k.column, k.descending)) (drop l.key-index l.keys) ≡ map (λ k. (column_of (scope_of l.scope) k.column, k.descending)) l.keys
