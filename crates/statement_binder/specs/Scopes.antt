-- Scopes, and what is bound in one.
use Rattle.std.specs.Prelude.{ℕ, true, false, List, [], ◌++◌, length, map, Option, None, option_map}
use Rattle.std.specs.List.{flat_map, enumerate_from}
use Rattle.col_value.specs.declared.column.Column.{Column}
use Rattle.sql_tree.specs.declared.query.Items.{Items}
use Rattle.sql_tree.specs.declared.query.Query.{Query}
use Rattle.sql_tree.specs.declared.query.Source.{Source}
use Rattle.sql_tree.specs.declared.tree.AggKind.{AggKind}
use Rattle.sql_tree.specs.declared.tree.Tree.{Tree}
use Rattle.sql_bound.specs.declared.expr.Expr.{Expr}
use Rattle.sql_bound.specs.declared.query.Aggregate.{Aggregate}
use Rattle.sql_bound.specs.declared.query.BoundQuery.{BoundQuery}
use Rattle.sql_binding.specs.Conjuncts.{condition_members}
use Rattle.sql_binding.specs.Outputs.{bound_order}
use Rattle.sql_binding.specs.Queries.{bound_sources, aggs_of_having, windows_of}
use Rattle.sql_binding.specs.Trees as trees
use Rattle.sql_binding.specs.Trees.{Bound, bound, bound_column, bound_window, window_aggregate, items_behind, rows_of, groups_of, all_aggs}
use Rattle.statement_binder.specs.declared.queries.Base.{Base}
use Rattle.statement_binder.specs.declared.queries.Made.{Made}
use Rattle.statement_binder.specs.declared.queries.Shown.{Shown}
use Rattle.statement_binder.specs.declared.scope.Scope.{Scope}

-- where names are looked up
abbrev pub scope_of : Scope → trees.Scope
scope_of s = record { seen = s.seen.now; last = s.last; keys = s.keys.now }

-- the members of an ON, which sees the FROM items up to its own
abbrev pub joined_members : trees.Scope → ℕ × Source → List Expr
joined_members s t = condition_members (record { seen = s.seen; last = t.0; keys = s.keys }) t.1.on

-- the conditions of ON and WHERE, split at their ANDs
abbrev pub kept_in : trees.Scope → Query → List Expr
kept_in s q = flat_map (joined_members s) (enumerate_from 0 q.sources) ++ condition_members s q.keep

-- the items
abbrev pub items_in : trees.Scope → Items → List (Bound Expr)
items_in s Items.Star = map (λ e. bound_column s e.0) (enumerate_from 0 s.seen)
items_in s (Items.Listed items) = items_behind s 0 items

abbrev pub having_in : trees.Scope → Query → Option (Bound Expr)
having_in s q = option_map (bound s) q.having

-- a query over rows, and one over groups, whose output columns have these names
abbrev pub rows_query : trees.Scope → List (ℕ × List Column) → List (Option (List ℕ)) → Query → BoundQuery
rows_query s tables outputs q = record {
  sources = bound_sources 0 tables;
  keep = kept_in s q;
  grouped = false;
  keys = [];
  aggs = map (window_aggregate s) (windows_of q.items);
  having = None;
  windows = map (bound_window s) (windows_of q.items);
  items = rows_of (items_in s q.items);
  order = bound_order outputs q.order;
  limit = q.limit;
}

abbrev pub groups_query : trees.Scope → List (ℕ × List Column) → List (Option (List ℕ)) → Query → BoundQuery
groups_query s tables outputs q = record {
  sources = bound_sources 0 tables;
  keep = kept_in s q;
  grouped = true;
  keys = s.keys;
  aggs = all_aggs (items_in s q.items) ++ aggs_of_having (having_in s q);
  having = option_map (λ b. b.group (length (all_aggs (items_in s q.items)))) (having_in s q);
  windows = [];
  items = groups_of (items_in s q.items) 0;
  order = bound_order outputs q.order;
  limit = q.limit;
}

-- what both have, and what one over rows and one over groups has alone
abbrev pub base_in : trees.Scope → List (ℕ × List Column) → List (Option (List ℕ)) → Query → Base
base_in s tables outputs q = record {
  sources = bound_sources 0 tables;
  keep = kept_in s q;
  order = bound_order outputs q.order;
}

abbrev pub made_in : trees.Scope → Query → Made
made_in s q = record { windows = map (bound_window s) (windows_of q.items); aggs = map (window_aggregate s) (windows_of q.items); items = rows_of (items_in s q.items) }

abbrev pub shown_in : trees.Scope → Query → Shown
shown_in s q = record {
  keys = s.keys;
  aggs = all_aggs (items_in s q.items) ++ aggs_of_having (having_in s q);
  items = groups_of (items_in s q.items) 0;
  having = option_map (λ b. b.group (length (all_aggs (items_in s q.items)))) (having_in s q);
}

-- an aggregate over rows
abbrev pub aggregate_in : trees.Scope → AggKind → Option Tree → Aggregate
aggregate_in s kind arg = record { kind = kind; arg = option_map (λ t. (bound s t).row) arg }
