use Rattle.std.proofs.Common.{◌≡◌, ◌∷◌, ◌++◌, map}
use Rattle.sql_tree.specs.Makers.{equals}
use Rattle.sql_tree.proofs.makers.equals_each.Given as goal

abbrev pub invariant-loop-other : goal.invariant-loop-other
invariant-loop-other l = l.out.items ++ map (equals l.part) l.other-iterator.rest.items ≡ map (equals l.part) (l.fn.first ∷ l.fn.more)
