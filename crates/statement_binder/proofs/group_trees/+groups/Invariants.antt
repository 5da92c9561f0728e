use Rattle.std.proofs.Common.{◌≡◌, ◌++◌, length, map, drop}
use Rattle.sql_binding.specs.Trees.{bound, bound_term, groups_of, all_aggs}
use Rattle.statement_binder.specs.Scopes.{scope_of}
use Rattle.statement_binder.proofs.group_trees.+groups.Given as goal

abbrev pub invariant-bind_groups-loop-tree : goal.invariant-bind_groups-loop-tree
invariant-bind_groups-loop-tree l = record {
  trees : l.out.items ++ groups_of (map (bound (scope_of l.scope)) (drop l.tree-index l.trees)) (length l.aggs.items) ≡ groups_of (map (bound (scope_of l.scope)) l.trees) (length l.fn.aggs.items);
  aggs : l.aggs.items ++ all_aggs (map (bound (scope_of l.scope)) (drop l.tree-index l.trees)) ≡ l.fn.aggs.items ++ all_aggs (map (bound (scope_of l.scope)) l.trees);
}

abbrev pub invariant-term_groups-loop-term : goal.invariant-term_groups-loop-term
invariant-term_groups-loop-term l = record {
  trees : l.out.items ++ groups_of (map (bound_term (scope_of l.scope)) (drop l.term-index l.terms)) (length l.aggs.items) ≡ groups_of (map (bound_term (scope_of l.scope)) l.terms) (length l.fn.aggs.items);
  aggs : l.aggs.items ++ all_aggs (map (bound_term (scope_of l.scope)) (drop l.term-index l.terms)) ≡ l.fn.aggs.items ++ all_aggs (map (bound_term (scope_of l.scope)) l.terms);
}
