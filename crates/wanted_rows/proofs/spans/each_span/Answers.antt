use Rattle.std.proofs.Common.{rules, sym, subst}
use Rattle.wanted_rows.specs.Spans.{AreSpans}
use Rattle.wanted_rows.proofs.Spanning.{spans_more}
use Rattle.wanted_rows.proofs.spans.each_span.Goals as goal

pub loop-column-preserved : goal.loop-column-preserved
loop-column-preserved c = record {
  spans =
      subst (AreSpans c.args.rows.now) (sym c.in_ok-push.ensures.items)
      (spans_more c.args.rows.now c.loop-column.spans.items c.in_ok-span_of.field-0 c.loop-column.column c.loop-column.invariant.long c.loop-column.invariant.spans c.in_ok-span_of.ensures);
  long = search rules;
}
