use Rattle.std.proofs.Common.{◌+◌, length}
use Rattle.del_vector.proofs.BothMarks.{Merges}
use Rattle.del_vector.proofs.merging.merged.Given as goal

abbrev pub invariant-loop-mark : goal.invariant-loop-mark
invariant-loop-mark l = Merges l.first l.second l.out.items l.left l.right

abbrev pub decreases-loop-mark : goal.decreases-loop-mark
decreases-loop-mark l = length l.left + length l.right
