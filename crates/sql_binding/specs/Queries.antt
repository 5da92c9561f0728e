-- The bound tree of a query, and why a query is refused.
use Rattle.std.specs.Prelude.{ℕ, ◌+◌, ◌||◌, ◌&&◌, not, nat_lt, if◌then◌else◌, Bool, true, false, List, [], ◌∷◌, ◌++◌, length, map, take, find, Option, None, option_map, option_and_then, bytes_eq, is_some}
use Rattle.std.specs.List.{list_all, list_any, flat_map, enumerate_from, slice_get, slice_index_or}
use Rattle.std.specs.Option.{option_map_or}
use Rattle.sql_tree.specs.declared.tree.ColRef.{ColRef}
use Rattle.sql_tree.specs.declared.query.Items.{Items}
use Rattle.sql_tree.specs.declared.query.Source.{Source}
use Rattle.sql_tree.specs.declared.query.Query.{Query}
use Rattle.sql_tree.specs.declared.query.Window.{Window}
use Rattle.sql_tree.specs.declared.refusal.Refusal.{Refusal}
use Rattle.sql_tree.specs.declared.refusal.Which.{Which}
use Rattle.col_value.specs.declared.column.Column.{Column}
use Rattle.sql_bound.specs.declared.expr.Kind.{Kind}
use Rattle.sql_bound.specs.declared.expr.Expr.{Expr}
use Rattle.sql_bound.specs.declared.query.Aggregate.{Aggregate}
use Rattle.sql_bound.specs.declared.query.FromItem.{FromItem}
use Rattle.sql_bound.specs.declared.query.BoundQuery.{BoundQuery}
use Rattle.sql_bound.specs.Kinds.{Kinds, kind_of_column, kind_of, is_condition, kind_of_aggregate}
use Rattle.sql_bound.specs.Bounds.{is_narrow, bound_of_aggregate}
use Rattle.sql_binding.specs.Firsts.{first_of, given_where, refused_where, all_there}
use Rattle.sql_binding.specs.Uses.{Use, is_grouped}
use Rattle.sql_binding.specs.Sight.{Seen, Reach, item_name, sight, fits, fits_twice, is_grouped_by}
use Rattle.sql_binding.specs.Search.{Search, first_in_query}
use Rattle.sql_binding.specs.Trees.{Scope, Bound, bound, bound_column, bound_window, window_aggregate, column_of, items_behind, windows_in, rows_of, groups_of, all_aggs}
use Rattle.sql_binding.specs.Conjuncts.{condition_members}
use Rattle.sql_binding.specs.Outputs.{output_names, unknown_key, twice_named, bound_order}

-- A table or a qualifier that names nothing. A qualifier is the name of a FROM item, wherever that stands.
abbrev pub names_of : List Source → List (List ℕ)
names_of sources = map item_name sources

abbrev pub is_stray : List (List ℕ) → List ℕ → Bool
is_stray names qualifier = not (list_any (λ n. bytes_eq n qualifier) names)

abbrev pub stray_qualifier : List (List ℕ) → ColRef → Option (List ℕ)
stray_qualifier names r = option_and_then (λ q. given_where (is_stray names q) q) r.qualifier

abbrev pub is_there : List (Option (List Column)) → ℕ → Bool
is_there found i = option_map_or is_some (slice_get found i) false

abbrev pub table_search : List (Option (List Column)) → List Source → Search
table_search found sources = record {
  star = None;
  source = λ i s. given_where (not (is_there found i)) s.table;
  column = λ reach u. stray_qualifier (names_of sources) u.column;
  key = λ k. None;
}

abbrev pub unknown_table : List (Option (List Column)) → Query → Option (List ℕ)
unknown_table found q = first_in_query (table_search found q.sources) q

-- A column that names nothing. A name that fits twice is refused as Ambiguous, and not here.
abbrev pub is_known : List ColRef → List Seen → Reach → Use → Bool
is_known group seen reach u =
    option_map_or (λ s. (not reach.grouped || u.inside) || (fits_twice seen reach.last u.column || is_grouped_by reach.last group s))
    (find (fits reach.last u.column) seen) false

abbrev pub unknown_column_of : List ColRef → List Seen → Reach → Use → Option (List ℕ)
unknown_column_of group seen reach u = given_where (not (is_known group seen reach u)) u.column.name

-- `*` of a grouped query stands for its columns, each of which has to be one of GROUP BY
abbrev pub ungrouped_column : Query → List Seen → Option (List ℕ)
ungrouped_column q seen =
    if is_grouped q then option_map (λ s. s.column.name) (find (λ s. not (is_grouped_by (length q.sources) q.group s)) seen) else None

abbrev pub column_search : List Seen → Query → Search
column_search seen q = record {
  star = ungrouped_column q seen;
  source = λ i s. None;
  column = unknown_column_of q.group seen;
  key = unknown_key (output_names seen q.items);
}

abbrev pub unknown_column : List Seen → Query → Option (List ℕ)
unknown_column seen q = first_in_query (column_search seen q) q

-- A column, a FROM item's name or an output name that fits twice.
abbrev pub twice_named_item : List (List ℕ) → ℕ → Source → Option (List ℕ)
twice_named_item names i s = given_where (list_any (λ n. bytes_eq n (item_name s)) (take i names)) (item_name s)

abbrev pub twice_search : List Seen → Query → Search
twice_search seen q = record {
  star = None;
  source = twice_named_item (names_of q.sources);
  column = λ reach u. given_where (fits_twice seen reach.last u.column) u.column.name;
  key = twice_named (output_names seen q.items);
}

abbrev pub ambiguous_name : List Seen → Query → Option (List ℕ)
ambiguous_name seen q = first_in_query (twice_search seen q) q

-- a FROM item: its first column stands behind the columns of the items before it
abbrev pub bound_source : ℕ → ℕ × List Column → FromItem
bound_source first t = record { table = t.0; first = first; columns = length t.1 }

abbrev pub bound_sources : ℕ → List (ℕ × List Column) → List FromItem
bound_sources first [] = []
bound_sources first (t ∷ ts) = bound_source first t ∷ bound_sources (first + length t.1) ts

-- the columns of GROUP BY by their places
abbrev pub grouping : List Seen → Query → List ℕ
grouping seen q = map (column_of (record { seen = seen; last = length q.sources; keys = [] })) q.group

abbrev pub scope_to : List Seen → Query → ℕ → Scope
scope_to seen q last = record { seen = seen; last = last; keys = grouping seen q }

abbrev pub whole_scope : List Seen → Query → Scope
whole_scope seen q = scope_to seen q (length q.sources)

-- the items: `*` stands for all columns in sight
abbrev pub bound_items : List Seen → Query → Items → List (Bound Expr)
bound_items seen q Items.Star = map (λ e. bound_column (whole_scope seen q) e.0) (enumerate_from 0 seen)
bound_items seen q (Items.Listed items) = items_behind (whole_scope seen q) 0 items

-- the windows among the items
abbrev pub windows_of : Items → List Window
windows_of Items.Star = []
windows_of (Items.Listed items) = flat_map (λ i. windows_in i.tree) items

-- the conditions of ON and WHERE, split at their ANDs
abbrev pub on_members : List Seen → Query → ℕ × Source → List Expr
on_members seen q t = condition_members (scope_to seen q t.0) t.1.on

abbrev pub bound_keep : List Seen → Query → List Expr
bound_keep seen q = flat_map (on_members seen q) (enumerate_from 0 q.sources) ++ condition_members (whole_scope seen q) q.keep

abbrev pub bound_having : List Seen → Query → Option (Bound Expr)
bound_having seen q = option_map (bound (whole_scope seen q)) q.having

-- a query over rows, and one over groups
abbrev pub over_rows : List (ℕ × List Column) → List Seen → Query → BoundQuery
over_rows tables seen q = record {
  sources = bound_sources 0 tables;
  keep = bound_keep seen q;
  grouped = false;
  keys = [];
  aggs = map (window_aggregate (whole_scope seen q)) (windows_of q.items);
  having = None;
  windows = map (bound_window (whole_scope seen q)) (windows_of q.items);
  items = rows_of (bound_items seen q q.items);
  order = bound_order (output_names seen q.items) q.order;
  limit = q.limit;
}

abbrev pub aggs_of_having : Option (Bound Expr) → List Aggregate
aggs_of_having having = option_map_or (λ b. b.aggs) having []

abbrev pub over_groups : List (ℕ × List Column) → List Seen → Query → BoundQuery
over_groups tables seen q = record {
  sources = bound_sources 0 tables;
  keep = bound_keep seen q;
  grouped = true;
  keys = grouping seen q;
  aggs = all_aggs (bound_items seen q q.items) ++ aggs_of_having (bound_having seen q);
  having = option_map (λ b. b.group (length (all_aggs (bound_items seen q q.items)))) (bound_having seen q);
  windows = [];
  items = groups_of (bound_items seen q q.items) 0;
  order = bound_order (output_names seen q.items) q.order;
  limit = q.limit;
}

abbrev pub bound_in : List (ℕ × List Column) → List Seen → Query → BoundQuery
bound_in tables seen q = if is_grouped q then over_groups tables seen q else over_rows tables seen q

-- the columns in sight over these tables
abbrev pub columns_of : List (ℕ × List Column) → List (List Column)
columns_of tables = map (λ t. t.1) tables

-- The bound tree of a query, whose FROM items have tables at these places and with these columns.
abbrev pub bound_query : List (ℕ × List Column) → Query → BoundQuery
bound_query tables q = bound_in tables (sight q.sources (columns_of tables)) q

-- the kinds of the columns in sight
abbrev pub row_kinds : List Seen → Kinds
row_kinds seen = record { columns = map (λ s. kind_of_column s.column.kind) seen; keys = []; aggs = [] }

abbrev pub kind_or_null : Option Kind → Kind
kind_or_null k = option_map_or (λ k. k) k Kind.Null

abbrev pub aggregate_kinds : Kinds → List Aggregate → List Kind
aggregate_kinds rows aggs = map (λ a. kind_or_null (kind_of_aggregate rows a)) aggs

-- over groups, the kinds of the GROUP BY columns and of the aggregates, and no columns
abbrev pub group_kinds : Kinds → BoundQuery → Kinds
group_kinds rows b = record { columns = []; keys = map (λ k. slice_index_or rows.columns k Kind.Null) b.keys; aggs = aggregate_kinds rows b.aggs }

-- over tuples, the kinds of the columns and of what the windows are
abbrev pub tuple_kinds : Kinds → BoundQuery → Kinds
tuple_kinds rows b = record { columns = rows.columns; keys = []; aggs = aggregate_kinds rows b.aggs }

abbrev pub shown_kinds : Kinds → BoundQuery → Kinds
shown_kinds rows b = if b.grouped then group_kinds rows b else tuple_kinds rows b

abbrev pub is_typed : Kinds → Expr → Bool
is_typed s e = is_some (kind_of s e)

abbrev pub is_typed_aggregate : Kinds → Aggregate → Bool
is_typed_aggregate rows a = is_some (kind_of_aggregate rows a) && option_map_or (is_typed rows) a.arg true

-- The conditions of ON, WHERE and HAVING are truth values, and the items and the aggregates typed.
abbrev pub is_typed_query : Kinds → BoundQuery → Bool
is_typed_query rows b =
    list_all (is_condition rows) b.keep
    && (list_all (is_typed_aggregate rows) b.aggs
    && (list_all (is_typed (shown_kinds rows b)) b.items && option_map_or (is_condition (shown_kinds rows b)) b.having true))

abbrev pub is_narrow_aggregate : Aggregate → Bool
is_narrow_aggregate a = option_map_or (is_narrow []) a.arg true

-- Each number in it has a static bound that a result holds.
abbrev pub is_narrow_query : BoundQuery → Bool
is_narrow_query b =
    list_all (is_narrow []) b.keep
    && (list_all is_narrow_aggregate b.aggs
    && (list_all (is_narrow (map bound_of_aggregate b.aggs)) b.items && option_map_or (is_narrow (map bound_of_aggregate b.aggs)) b.having true))

-- a name that isn't there, or that fits twice
abbrev pub name_refusal : List Seen → Query → Option Refusal
name_refusal seen q = first_of (option_map Refusal.UnknownColumn (unknown_column seen q)) (option_map Refusal.Ambiguous (ambiguous_name seen q))

-- an expression that isn't typed, or too wide
abbrev pub tree_refusal : List Seen → BoundQuery → Option Refusal
tree_refusal seen b = first_of (refused_where (not (is_typed_query (row_kinds seen) b)) Refusal.TypeMismatch) (refused_where (not (is_narrow_query b)) Refusal.TooWide)

-- at most four FROM items
abbrev pub from_limit : Query → Option Refusal
from_limit q = refused_where (nat_lt 4 (length q.sources)) (Refusal.Limit Which.From 4)

-- why a query over these columns is refused: each reason is looked for in the whole statement before the next
abbrev pub refusal_in : List Seen → BoundQuery → Query → Option Refusal
refusal_in seen b q = first_of (name_refusal seen q) (first_of (tree_refusal seen b) (from_limit q))

abbrev pub at_no_place : List Column → ℕ × List Column
at_no_place columns = (0, columns)

-- where the tables stand changes no refusal
abbrev pub refusal_over : List (List Column) → Query → Option Refusal
refusal_over tables q = refusal_in (sight q.sources tables) (bound_in (map at_no_place tables) (sight q.sources tables) q) q

-- Why a query is refused, whose FROM items have tables with these columns; None where there is no such table.
abbrev pub query_refusal : List (Option (List Column)) → Query → Option Refusal
query_refusal found q = first_of (option_map Refusal.UnknownTable (unknown_table found q)) (option_and_then (λ tables. refusal_over tables q) (all_there found))
