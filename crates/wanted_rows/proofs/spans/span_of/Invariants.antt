use Rattle.std.proofs.Common.{take}
use Rattle.wanted_rows.specs.Spans.{IsSpan}
use Rattle.wanted_rows.proofs.spans.span_of.Given as goal

abbrev pub invariant-loop-asked : goal.invariant-loop-asked
invariant-loop-asked l = IsSpan l.column (take l.asked-index l.rows) (record { least = l.least; greatest = l.greatest })
