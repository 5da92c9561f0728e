use Rattle.std.proofs.Common.{◌≡◌, ◌++◌, map, drop, false}
use Rattle.exec_window.proofs.tuples.parts.Given as goal

abbrev pub invariant-loop-column : goal.invariant-loop-column
invariant-loop-column l = l.out.items ++ map (λ c. (c, false)) (drop l.column-index l.columns) ≡ map (λ c. (c, false)) l.columns
