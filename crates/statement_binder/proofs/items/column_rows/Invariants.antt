use Rattle.std.proofs.Common.{◌≡◌, ◌++◌, map, drop}
use Rattle.std.specs.List.{enumerate_from}
use Rattle.sql_bound.specs.declared.expr.Expr as expr
use Rattle.statement_binder.proofs.items.column_rows.Given as goal

abbrev pub invariant-loop-i : goal.invariant-loop-i
invariant-loop-i l = l.out.items ++ map (λ e. expr.Col e.0) (enumerate_from l.i (drop l.i l.scope.seen.now)) ≡ map (λ e. expr.Col e.0) (enumerate_from 0 l.scope.seen.now)
