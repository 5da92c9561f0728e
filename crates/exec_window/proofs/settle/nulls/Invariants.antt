use Rattle.std.proofs.Common.{◌≡◌, ◌++◌, map, drop}
use Rattle.col_value.specs.declared.wide.Wide.TheVariants.{Null}
use Rattle.exec_window.proofs.settle.nulls.Given as goal

abbrev pub invariant-loop-row : goal.invariant-loop-row
invariant-loop-row l = l.out.items ++ map (λ r. Null) (drop l._row-index l.rows) ≡ map (λ r. Null) l.rows
