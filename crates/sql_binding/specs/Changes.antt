-- The bound trees of DELETE and UPDATE, whose table is their one FROM item, and why they are refused.
use Rattle.std.specs.Prelude.{ℕ, ◌&&◌, not, Bool, List, [], ◌∷◌, map, Option, Some, None, option_map, bytes_eq}
use Rattle.std.specs.List.{list_all, list_any, flat_map, slice_index_or}
use Rattle.sql_tree.specs.declared.tree.ColRef.{ColRef}
use Rattle.sql_tree.specs.declared.tree.Tree.{Tree}
use Rattle.sql_tree.specs.declared.tree.Tree as tree
use Rattle.sql_tree.specs.declared.query.Item.{Item}
use Rattle.sql_tree.specs.declared.query.Items.{Items}
use Rattle.sql_tree.specs.declared.query.ItemTree.{ItemTree}
use Rattle.sql_tree.specs.declared.query.Query.{Query}
use Rattle.sql_tree.specs.declared.query.Source.{Source}
use Rattle.sql_tree.specs.declared.statement.Delete.{Delete}
use Rattle.sql_tree.specs.declared.statement.Setting.{Setting}
use Rattle.sql_tree.specs.declared.statement.Update.{Update}
use Rattle.sql_tree.specs.declared.refusal.Refusal.{Refusal}
use Rattle.col_value.specs.declared.column.Column.{Column}
use Rattle.sql_bound.specs.declared.expr.Kind.{Kind}
use Rattle.sql_bound.specs.declared.expr.Expr.{Expr}
use Rattle.sql_bound.specs.declared.query.BoundQuery.{BoundQuery}
use Rattle.sql_bound.specs.declared.query.Assigned.{Assigned}
use Rattle.sql_bound.specs.Kinds.{Kinds, kind_of, is_of}
use Rattle.sql_bound.specs.Bounds.{is_narrow}
use Rattle.sql_binding.specs.Firsts.{first_of, given_where, refused_where}
use Rattle.sql_binding.specs.Sight.{Seen, sight}
use Rattle.sql_binding.specs.Trees.{Scope, bound, column_of}
use Rattle.sql_binding.specs.Queries.{unknown_table, unknown_column, ambiguous_name, bound_query, query_refusal, row_kinds, is_typed_query, is_narrow_query}

-- a query over one table
abbrev pub source_of : List ℕ → Source
source_of table = record { table = table; alias = None; on = None }

abbrev pub query_over : List ℕ → Items → Option Tree → Query
query_over table items keep = record { items = items; sources = source_of table ∷ []; keep = keep; group = []; having = None; order = []; limit = None }

-- DELETE marks the rows of `SELECT * FROM table WHERE keep`
abbrev pub delete_query : Delete → Query
delete_query d = query_over d.table Items.Star d.keep

-- Why a DELETE is refused, whose table has these columns; None where there is no such table.
abbrev pub delete_refusal : Option (List Column) → Delete → Option Refusal
delete_refusal found d = query_refusal (found ∷ []) (delete_query d)

-- its bound tree over the table at this place
abbrev pub bound_delete : ℕ → List Column → Delete → BoundQuery
bound_delete table columns d = bound_query ((table, columns) ∷ []) (delete_query d)

-- UPDATE changes the rows of `SELECT * FROM table WHERE keep`
abbrev pub update_query : Update → Query
update_query u = query_over u.table Items.Star u.keep

-- the names of an UPDATE stand as those of a query: for each setting its column, and then what it is set to
abbrev pub item_of : Tree → Item
item_of t = record { tree = ItemTree.Plain t; alias = None }

abbrev pub column_named : List ℕ → ColRef
column_named name = record { qualifier = None; name = name }

abbrev pub setting_items : Setting → List Item
setting_items s = item_of (tree.Col (column_named s.column)) ∷ (item_of s.tree ∷ [])

abbrev pub naming_query : Update → Query
naming_query u = query_over u.table (Items.Listed (flat_map setting_items u.settings)) u.keep

-- the columns of its table
abbrev pub update_sight : List Column → Update → List Seen
update_sight columns u = sight (source_of u.table ∷ []) (columns ∷ [])

abbrev pub update_scope : List Column → Update → Scope
update_scope columns u = record { seen = update_sight columns u; last = 1; keys = [] }

abbrev pub bound_setting : Scope → Setting → ℕ × Expr
bound_setting s setting = (column_of s (column_named setting.column), (bound s setting.tree).row)

abbrev pub bound_settings : List Column → Update → List (ℕ × Expr)
bound_settings columns u = map (bound_setting (update_scope columns u)) u.settings

-- Its bound tree over the table at this place: the rows that it changes, and what it sets.
abbrev pub bound_update : ℕ → List Column → Update → BoundQuery × Assigned
bound_update table columns u = (bound_query ((table, columns) ∷ []) (update_query u), record { columns = bound_settings columns u })

-- a column that was set before
abbrev pub set_twice_behind : List (List ℕ) → List Setting → Option (List ℕ)
set_twice_behind before [] = None
set_twice_behind before (s ∷ rest) = first_of (given_where (list_any (λ n. bytes_eq n s.column) before) s.column) (set_twice_behind (s.column ∷ before) rest)

-- a value is of its column's kind
abbrev pub is_typed_setting : Kinds → ℕ × Expr → Bool
is_typed_setting rows a = is_of (slice_index_or rows.columns a.0 Kind.Null) (kind_of rows a.1)

abbrev pub is_typed_update : Kinds → BoundQuery × Assigned → Bool
is_typed_update rows b = list_all (is_typed_setting rows) b.1.columns && is_typed_query rows b.0

abbrev pub is_narrow_update : BoundQuery × Assigned → Bool
is_narrow_update b = list_all (λ a. is_narrow [] a.1) b.1.columns && is_narrow_query b.0

abbrev pub update_name_refusal : List Column → Update → Option Refusal
update_name_refusal columns u =
    first_of (option_map Refusal.UnknownTable (unknown_table (Some columns ∷ []) (naming_query u)))
    (first_of (option_map Refusal.UnknownColumn (unknown_column (update_sight columns u) (naming_query u)))
    (option_map Refusal.Ambiguous (first_of (ambiguous_name (update_sight columns u) (naming_query u)) (set_twice_behind [] u.settings))))

abbrev pub update_tree_refusal : Kinds → BoundQuery × Assigned → Option Refusal
update_tree_refusal rows b = first_of (refused_where (not (is_typed_update rows b)) Refusal.TypeMismatch) (refused_where (not (is_narrow_update b)) Refusal.TooWide)

-- Why an UPDATE is refused, whose table has these columns, whatever it sets its rows to; None where there is no such table. The table
-- stands before all other names.
abbrev pub update_refusal : Option (List Column) → Update → Option Refusal
update_refusal None u = Some (Refusal.UnknownTable u.table)
update_refusal (Some columns) u = first_of (update_name_refusal columns u) (update_tree_refusal (row_kinds (update_sight columns u)) (bound_update 0 columns u))
