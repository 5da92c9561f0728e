use Rattle.std.proofs.Common.{◌≡◌, map, take}
use Rattle.row_bounds.specs.Lanes.{stands_so}
use Rattle.row_bounds.proofs.lanes.compare_lanes.Given as goal

abbrev pub invariant-loop-n : goal.invariant-loop-n
invariant-loop-n l = l.out.items ≡ map (stands_so l.cmp l.with) (take l.n-index l.values)
