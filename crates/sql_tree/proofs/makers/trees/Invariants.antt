use Rattle.std.proofs.Common.{◌≡◌, ◌∷◌, ◌++◌, map}
use Rattle.sql_tree.specs.declared.part.Part.{Part}
use Rattle.sql_tree.proofs.makers.trees.Given as goal

abbrev pub invariant-loop-part : goal.invariant-loop-part
invariant-loop-part l = l.trees.items ++ map (λ (p : Part). p.tree) l.part-iterator.rest.items ≡ map (λ (p : Part). p.tree) (l.fn.first ∷ l.fn.more)
