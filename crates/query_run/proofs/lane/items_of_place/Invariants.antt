use Rattle.std.proofs.Common.{◌≡◌, map, take}
use Rattle.exec_group.specs.Columns.{row_of}
use Rattle.sql_bound.specs.Values.{of_row, value_of}
use Rattle.query_run.proofs.lane.items_of_place.Given as goal

abbrev pub invariant-loop-item : goal.invariant-loop-item
invariant-loop-item l = l.out.items ≡ map (value_of (of_row (row_of l.columns l.place))) (take l.item-index l.items)
