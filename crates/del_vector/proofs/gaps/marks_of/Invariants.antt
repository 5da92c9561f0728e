use Rattle.std.proofs.Common.{◌≡◌, ◌++◌, drop, true}
use Rattle.del_vector.specs.Fronts.{reach, marks_from}
use Rattle.del_vector.proofs.gaps.marks_of.Given as goal

abbrev pub invariant-loop-gap : goal.invariant-loop-gap
invariant-loop-gap l = (l.marks.items ++ marks_from l.from (drop l.gap-index l.gaps) ≡ marks_from 0 l.gaps) × (reach l.from (drop l.gap-index l.gaps) ≡ true)
