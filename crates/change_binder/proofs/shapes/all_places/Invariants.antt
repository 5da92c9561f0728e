use Rattle.std.proofs.Common.{◌≡◌, ◌++◌, map, drop}
use Rattle.std.specs.List.{enumerate_from}
use Rattle.change_binder.proofs.shapes.all_places.Given as goal

abbrev pub invariant-loop-i : goal.invariant-loop-i
invariant-loop-i l = l.out.items ++ map (λ e. e.0) (enumerate_from l.i (drop l.i l.parts)) ≡ map (λ e. e.0) (enumerate_from 0 l.parts)
