use Rattle.std.proofs.Common.{◌≡◌, drop}
use Rattle.exec_group.specs.Columns.{row_of}
use Rattle.sql_bound.specs.Printed.{printed_cmp}
use Rattle.sql_bound.specs.Values.{of_row}
use Rattle.query_run.specs.Outputs.{items_in}
use Rattle.query_run.proofs.lane.is_before_at.Given as goal

abbrev pub invariant-loop-column : goal.invariant-loop-column
invariant-loop-column l = printed_cmp (drop l.column-index l.query.order) l.row (items_in l.query (of_row (row_of l.columns l.place))) ≡ printed_cmp l.query.order l.row (items_in l.query (of_row (row_of l.columns l.place)))
