use Rattle.std.proofs.Common.{◌≡◌, Some, map, take}
use Rattle.sql_bound.specs.Values.{of_row, value_of}
use Rattle.expr_value.specs.Terms.{added, multiplied, term_value}
use Rattle.exec_group.specs.Columns.{row_of}
use Rattle.exec_group.proofs.lanes.+lane.Given as goal

abbrev pub invariant-sum_lane-loop-term : goal.invariant-sum_lane-loop-term
invariant-sum_lane-loop-term l = map Some l.so_far.items ≡ map (λ i. added (map (term_value (of_row (row_of l.columns i))) (take l.term-index l.terms))) l.places

abbrev pub invariant-product_lane-loop-part : goal.invariant-product_lane-loop-part
invariant-product_lane-loop-part l = map Some l.so_far.items ≡ map (λ i. multiplied (map (value_of (of_row (row_of l.columns i))) (take l.part-index l.parts))) l.places
