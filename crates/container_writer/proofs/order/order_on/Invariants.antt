use Rattle.std.proofs.Common.{◌≡◌, drop}
use Rattle.col_value.specs.Order.{row_cmp, projected}
use Rattle.container_writer.proofs.order.order_on.Given as goal

abbrev pub invariant-loop-column : goal.invariant-loop-column
invariant-loop-column l = row_cmp (projected l.a (drop l.column-index l.columns)) (projected l.b (drop l.column-index l.columns)) ≡ row_cmp (projected l.a l.columns) (projected l.b l.columns)
