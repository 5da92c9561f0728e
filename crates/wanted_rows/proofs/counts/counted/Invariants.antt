use Rattle.std.proofs.Common.{◌≡◌, ◌+◌, length}
use Rattle.col_value.specs.declared.row.Asked.{Asked}
use Rattle.wanted_rows.specs.Wanted.{count_in, tally, total}
use Rattle.wanted_rows.proofs.counts.counted.Given as goal

abbrev pub invariant-loop-asked : goal.invariant-loop-asked
invariant-loop-asked l = record {
  each : (q : Asked) → count_in l.counts.entries q + tally q l.rows.items ≡ count_in l.fn.counts.entries q + tally q l.fn.rows.items;
  all : total l.counts.entries + length l.rows.items ≡ total l.fn.counts.entries + length l.fn.rows.items;
}

abbrev pub decreases-loop-asked : goal.decreases-loop-asked
decreases-loop-asked l = length l.rows.items
