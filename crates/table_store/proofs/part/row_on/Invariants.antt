use Rattle.std.proofs.Common.{◌≡◌, take, map}
use Rattle.col_value.specs.Order.{projected}
use Rattle.table_store.proofs.part.row_on.Given as goal

abbrev pub invariant-loop-column : goal.invariant-loop-column
invariant-loop-column l = l.values.items ≡ projected l.row (map (λ c. c.ordinal) (take l.column-index l.columns))
