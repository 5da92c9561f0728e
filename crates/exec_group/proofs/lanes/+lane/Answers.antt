use Rattle.std.proofs.Common.{◌≡◌, Some, ap, map, pos, refl, rules, take, ◌∙◌}
use Rattle.sql_bound.specs.Values.{number_in, of_row, value_of}
use Rattle.expr_value.specs.Terms.{added, multiplied, term_value}
use Rattle.exec_group.specs.Columns.{row_of}
use Rattle.exec_group.proofs.Spans.{products_more, repeated_lane, sums_more}
use Rattle.exec_group.proofs.lanes.+lane.Goals as goal

pub sum_lane-loop-term-init : goal.sum_lane-loop-term-init
sum_lane-loop-term-init t c = ap (map Some) c.in_ok-so_far.ensures ∙ repeated_lane (λ i. added (map (term_value (of_row (row_of c.args.columns.now i))) (take 0 c.args.terms.now))) c.args.places.now (pos 0) (λ p. refl)

pub product_lane-loop-part-init : goal.product_lane-loop-part-init
product_lane-loop-part-init t c = ap (map Some) c.in_ok-so_far.ensures ∙ repeated_lane (λ i. multiplied (map (value_of (of_row (row_of c.args.columns.now i))) (take 0 c.args.parts.now))) c.args.places.now (pos 1) (λ p. refl)

pub sum_lane-loop-term-preserved : goal.sum_lane-loop-term-preserved
sum_lane-loop-term-preserved t c =
    let lent : c.as_slice.result.now ≡ c.in-Some.part.items = search rules in
    let part : map Some c.in-Some.part.items ≡ map (λ i. number_in (value_of (of_row (row_of c.args.columns.now i)) c.term-item.result.part)) c.args.places.now = search rules in
    sums_more c.args.columns.now c.args.places.now c.args.terms.now c.loop-term.term-index c.term-item.result c.loop-term.so_far.items c.adds_lane.new.so_far.items c.as_slice.result.now c.loop-term-test.true c.term-item.is
    c.loop-term.invariant (ap (map Some) lent ∙ part) c.if-not-adds_lane.ensures.long (c.if-not-adds_lane.ensures.sums (search rules))

pub product_lane-loop-part-preserved : goal.product_lane-loop-part-preserved
product_lane-loop-part-preserved t c =
    let lent : c.as_slice.result.now ≡ c.in-Some.factor.items = search rules in
    let part : map Some c.in-Some.factor.items ≡ map (λ i. number_in (value_of (of_row (row_of c.args.columns.now i)) c.part-item.result)) c.args.places.now = search rules in
    products_more c.args.columns.now c.args.places.now c.args.parts.now c.loop-part.part-index c.part-item.result c.loop-part.so_far.items c.multiplies_lane.new.so_far.items c.as_slice.result.now c.loop-part-test.true c.part-item.is
    c.loop-part.invariant (ap (map Some) lent ∙ part) c.if-not-multiplies_lane.ensures.long (c.if-not-multiplies_lane.ensures.products (search rules))
