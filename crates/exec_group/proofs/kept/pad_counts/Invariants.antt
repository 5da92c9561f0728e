use Rattle.std.proofs.Common.{◌≡◌, ◌-◌, length}
use Rattle.exec_group.specs.Columns.{padded}
use Rattle.exec_group.specs.Counted.{counts_as}
use Rattle.exec_group.specs.declared.accumulator.Accumulator.TheVariants.{Rows}
use Rattle.exec_group.proofs.kept.pad_counts.Given as goal

abbrev pub invariant-loop-counts : goal.invariant-loop-counts
invariant-loop-counts l = padded l.count (Rows 0) (counts_as l.counts.items) ≡ padded l.count (Rows 0) (counts_as l.fn.counts.items)

abbrev pub decreases-loop-counts : goal.decreases-loop-counts
decreases-loop-counts l = l.count - length l.counts.items
