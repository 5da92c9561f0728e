use Rattle.std.proofs.Common.{◌≡◌, false, ◌∷◌, ◌++◌, map}
use Rattle.sql_tree.specs.Makers.{addend, term}
use Rattle.sql_tree.proofs.makers.terms.Given as goal

abbrev pub invariant-loop-next : goal.invariant-loop-next
invariant-loop-next l = l.terms.items ++ map term l.next-iterator.rest.items ≡ map term (addend false l.fn.first ∷ l.fn.more)
