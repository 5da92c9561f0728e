use Rattle.std.proofs.Common.{◌≡◌, take}
use Rattle.sql_tree.proofs.+copies.Given as goal

abbrev pub invariant-copies::terms_copy-loop-term : goal.invariant-copies::terms_copy-loop-term
invariant-copies::terms_copy-loop-term l = l.out.items ≡ take l.term-index l.terms

abbrev pub invariant-copies::trees_copy-loop-tree : goal.invariant-copies::trees_copy-loop-tree
invariant-copies::trees_copy-loop-tree l = l.out.items ≡ take l.tree-index l.trees
