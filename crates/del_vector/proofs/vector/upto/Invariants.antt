use Rattle.std.proofs.Common.{◌≡◌, take}
use Rattle.del_vector.specs.Marks.{marks_upto}
use Rattle.del_vector.proofs.vector.upto.Given as goal

abbrev pub invariant-loop-mark : goal.invariant-loop-mark
invariant-loop-mark l = l.kept.items ≡ marks_upto l.epoch (take l.mark-index l.marks)
