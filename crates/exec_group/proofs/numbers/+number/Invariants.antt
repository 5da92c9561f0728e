use Rattle.std.proofs.Common.{◌≡◌, Some, map, take}
use Rattle.sql_bound.specs.Values.{of_row, value_of}
use Rattle.expr_value.specs.Terms.{added, multiplied, term_value}
use Rattle.exec_group.specs.Columns.{row_of}
use Rattle.exec_group.proofs.numbers.+number.Given as goal

abbrev pub invariant-sum_at-loop-term : goal.invariant-sum_at-loop-term
invariant-sum_at-loop-term l = added (map (term_value (of_row (row_of l.columns l.place))) (take l.term-index l.terms)) ≡ Some l.so_far

abbrev pub invariant-product_at-loop-part : goal.invariant-product_at-loop-part
invariant-product_at-loop-part l = multiplied (map (value_of (of_row (row_of l.columns l.place))) (take l.part-index l.parts)) ≡ Some l.so_far
