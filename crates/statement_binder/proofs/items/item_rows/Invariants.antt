use Rattle.std.proofs.Common.{◌≡◌, ◌≤◌, ◌++◌, drop}
use Rattle.sql_binding.specs.Trees.{items_behind, rows_of}
use Rattle.statement_binder.specs.Scopes.{scope_of}
use Rattle.statement_binder.proofs.items.item_rows.Given as goal

abbrev pub invariant-loop-item : goal.invariant-loop-item
invariant-loop-item l = record {
  items : l.out.items ++ rows_of (items_behind (scope_of l.scope) l.windows (drop l.item-index l.items)) ≡ rows_of (items_behind (scope_of l.scope) 0 l.items);
  few : l.windows ≤ l.item-index;
}
