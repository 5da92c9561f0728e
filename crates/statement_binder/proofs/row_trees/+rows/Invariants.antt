use Rattle.std.proofs.Common.{◌≡◌, map, take}
use Rattle.sql_binding.specs.Trees.{bound, bound_term, rows_of}
use Rattle.statement_binder.specs.Scopes.{scope_of}
use Rattle.statement_binder.proofs.row_trees.+rows.Given as goal

abbrev pub invariant-bind_rows-loop-tree : goal.invariant-bind_rows-loop-tree
invariant-bind_rows-loop-tree l = l.out.items ≡ rows_of (map (bound (scope_of l.scope)) (take l.tree-index l.trees))

abbrev pub invariant-term_rows-loop-term : goal.invariant-term_rows-loop-term
invariant-term_rows-loop-term l = l.out.items ≡ rows_of (map (bound_term (scope_of l.scope)) (take l.term-index l.terms))
