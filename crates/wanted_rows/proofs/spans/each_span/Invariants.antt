use Rattle.std.proofs.Common.{◌≡◌, length}
use Rattle.wanted_rows.specs.Spans.{AreSpans}
use Rattle.wanted_rows.proofs.spans.each_span.Given as goal

abbrev pub invariant-loop-column : goal.invariant-loop-column
invariant-loop-column l = record {
  spans : AreSpans l.rows l.spans.items;
  long : l.column ≡ length l.spans.items;
}
