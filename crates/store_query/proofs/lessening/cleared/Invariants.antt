use Rattle.std.proofs.Common.{◌≡◌, ◌++◌, map, drop}
use Rattle.std.specs.List.{enumerate_from}
use Rattle.store_query.specs.Lessening.{value_kept}
use Rattle.store_query.proofs.lessening.cleared.Given as goal

abbrev pub invariant-loop-c : goal.invariant-loop-c
invariant-loop-c l = l.out.items ++ map (value_kept l.row) (enumerate_from l.c (drop l.c l.places)) ≡ map (value_kept l.row) (enumerate_from 0 l.places)
