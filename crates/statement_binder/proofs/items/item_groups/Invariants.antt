use Rattle.std.proofs.Common.{◌≡◌, ◌≤◌, ◌++◌, length, drop}
use Rattle.sql_binding.specs.Trees.{items_behind, groups_of, all_aggs}
use Rattle.statement_binder.specs.Scopes.{scope_of}
use Rattle.statement_binder.proofs.items.item_groups.Given as goal

abbrev pub invariant-loop-item : goal.invariant-loop-item
invariant-loop-item l = record {
  items : l.out.items ++ groups_of (items_behind (scope_of l.scope) l.windows (drop l.item-index l.items)) (length l.aggs.items) ≡ groups_of (items_behind (scope_of l.scope) 0 l.items) (length l.fn.aggs.items);
  aggs : l.aggs.items ++ all_aggs (items_behind (scope_of l.scope) l.windows (drop l.item-index l.items)) ≡ l.fn.aggs.items ++ all_aggs (items_behind (scope_of l.scope) 0 l.items);
  few : l.windows ≤ l.item-index;
}
