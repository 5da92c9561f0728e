use Rattle.std.proofs.Common.{◌≡◌, map, drop}
use Rattle.std.specs.List.{list_any}
use Rattle.sql_tree.specs.Modes.{has_aggregate, term_has_aggregate}
use Rattle.sql_tree.proofs.+aggregates.Given as goal

abbrev pub invariant-modes::any_has-loop-tree : goal.invariant-modes::any_has-loop-tree
invariant-modes::any_has-loop-tree l = list_any (λ b. b) (map has_aggregate (drop l.tree-index l.trees)) ≡ list_any (λ b. b) (map has_aggregate l.trees)

abbrev pub invariant-modes::any_term_has-loop-term : goal.invariant-modes::any_term_has-loop-term
invariant-modes::any_term_has-loop-term l = list_any (λ b. b) (map term_has_aggregate (drop l.term-index l.terms)) ≡ list_any (λ b. b) (map term_has_aggregate l.terms)
