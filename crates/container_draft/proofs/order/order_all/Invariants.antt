use Rattle.std.proofs.Common.{◌≡◌, drop}
use Rattle.col_value.specs.Order.{row_cmp}
use Rattle.container_draft.specs.Spots.{asked_on}
use Rattle.container_draft.proofs.order.order_all.Given as goal

abbrev pub invariant-loop-column : goal.invariant-loop-column
invariant-loop-column l = row_cmp (drop l.column (asked_on l.a).row) (drop l.column (asked_on l.b).row) ≡ row_cmp (asked_on l.a).row (asked_on l.b).row
