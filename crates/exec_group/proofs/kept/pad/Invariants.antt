use Rattle.std.proofs.Common.{◌≡◌, ◌-◌, [], length}
use Rattle.exec_group.specs.Accumulators.{accumulated}
use Rattle.exec_group.specs.Columns.{padded}
use Rattle.exec_group.proofs.kept.pad.Given as goal

abbrev pub invariant-loop-kind : goal.invariant-loop-kind
invariant-loop-kind l = padded l.count (accumulated l.kind 0 []) l.list.items ≡ padded l.count (accumulated l.kind 0 []) l.fn.list.items

abbrev pub decreases-loop-kind : goal.decreases-loop-kind
decreases-loop-kind l = l.count - length l.list.items
