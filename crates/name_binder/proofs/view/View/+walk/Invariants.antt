use Rattle.std.proofs.Common.{◌≡◌, drop}
use Rattle.sql_binding.specs.Firsts.{first_given}
use Rattle.sql_binding.specs.Uses.{uses}
use Rattle.name_binder.specs.Looks.{named_in, term_uses}
use Rattle.name_binder.proofs.view.View.+walk.Given as goal

abbrev pub invariant-first_in_trees-loop-tree : goal.invariant-first_in_trees-loop-tree
invariant-first_in_trees-loop-tree l =
    first_given (λ t. first_given (named_in l.self l.inside) (uses t)) (drop l.tree-index l.trees) ≡ first_given (λ t. first_given (named_in l.self l.inside) (uses t)) l.trees

abbrev pub invariant-first_in_terms-loop-term : goal.invariant-first_in_terms-loop-term
invariant-first_in_terms-loop-term l =
    first_given (λ t. first_given (named_in l.self l.inside) (term_uses t)) (drop l.term-index l.terms) ≡ first_given (λ t. first_given (named_in l.self l.inside) (term_uses t)) l.terms
