use Rattle.std.proofs.Common.{◌≡◌, drop}
use Rattle.col_value.specs.Order.{row_cmp}
use Rattle.sql_bound.specs.Outputs.{keys_of}
use Rattle.exec_window.proofs.compare.compare_parts.Given as goal

abbrev pub invariant-loop-column : goal.invariant-loop-column
invariant-loop-column l = row_cmp (keys_of (drop l.column-index l.columns) l.a) (keys_of (drop l.column-index l.columns) l.b) ≡ row_cmp (keys_of l.columns l.a) (keys_of l.columns l.b)
