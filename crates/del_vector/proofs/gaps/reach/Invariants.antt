use Rattle.std.proofs.Common.{◌≡◌, ◌≤◌, ◌^◌, drop}
use Rattle.del_vector.specs.Fronts.{reach}
use Rattle.del_vector.proofs.gaps.reach.Given as goal

abbrev pub invariant-loop-gap : goal.invariant-loop-gap
invariant-loop-gap l = (reach l.from (drop l.gap-index l.gaps) ≡ reach 0 l.gaps) × (l.from ≤ 2 ^ 64)
