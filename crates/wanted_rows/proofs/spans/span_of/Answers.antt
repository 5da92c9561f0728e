use Rattle.std.proofs.Common.{List, ◌∙◌, ap, slice_index_or}
use Rattle.col_value.specs.declared.value.Value.{Value}
use Rattle.col_value.specs.declared.value.Value.TheVariants.{Null}
use Rattle.wanted_rows.specs.declared.spans.Span.{Span}
use Rattle.wanted_rows.proofs.Spanning.{span_all, span_more}
use Rattle.wanted_rows.proofs.spans.span_of.Goals as goal

pub loop-asked-preserved : goal.loop-asked-preserved
loop-asked-preserved c =
    let was : Span = record { least = c.loop-asked.least.now; greatest = c.loop-asked.greatest.now } in
    let wide : Span = record { least = c.lesser-least.result.now; greatest = c.greater-greatest.result.now } in
    span_more c.args.column c.args.rows.now c.loop-asked.asked-index c.asked-item.result c.value_in-value.result.now was wide c.loop-asked.invariant c.loop-asked-test.true c.asked-item.is
    (c.value_in-value.ensures ∙ ap (λ (row : List Value). slice_index_or row c.args.column Null) c.as_slice.ensures) c.lesser-least.ensures c.greater-greatest.ensures

pub returns : goal.returns
returns c =
    let was : Span = record { least = c.loop-asked.least.now; greatest = c.loop-asked.greatest.now } in
    let copied : Span = record { least = c.in_ok-copy.field-0; greatest = c.in_ok-copy-2.field-0 } in
    span_all c.args.column c.args.rows.now c.loop-asked.asked-index was copied c.loop-asked.invariant c.loop-asked-test.false c.in_ok-copy.ensures c.in_ok-copy-2.ensures
