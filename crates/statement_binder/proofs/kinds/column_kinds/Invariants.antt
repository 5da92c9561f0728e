use Rattle.std.proofs.Common.{◌≡◌, map, take}
use Rattle.sql_bound.specs.Kinds.{kind_of_column}
use Rattle.statement_binder.proofs.kinds.column_kinds.Given as goal

abbrev pub invariant-loop-column : goal.invariant-loop-column
invariant-loop-column l = l.out.items ≡ map (λ s. kind_of_column s.column.kind) (take l.column-index l.seen)
