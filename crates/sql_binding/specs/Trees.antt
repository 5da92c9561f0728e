-- The bound tree of an expression: over a row of the FROM items, and over a group.
use Rattle.std.specs.Prelude.{ℕ, ◌+◌, ◌==◌, ◌++◌, List, [], ◌∷◌, length, map, position, Option, option_map}
use Rattle.std.specs.List.{flat_map}
use Rattle.std.specs.Option.{option_map_or}
use Rattle.col_value.specs.declared.wide.Wide.TheVariants as wide
use Rattle.sql_tree.specs.declared.tree.AggKind.{AggKind}
use Rattle.sql_tree.specs.declared.tree.ColRef.{ColRef}
use Rattle.sql_tree.specs.declared.tree.Tree.{Tree}
use Rattle.sql_tree.specs.declared.tree.Tree.TheOpen.{Tree-F, Term-F}
use Rattle.sql_tree.specs.declared.tree.Tree.TheFolds.{fold-Tree, fold-Term}
use Rattle.sql_tree.specs.declared.tree.Term.{Term}
use Rattle.sql_tree.specs.declared.query.Item.{Item}
use Rattle.sql_tree.specs.declared.query.ItemTree.{ItemTree}
use Rattle.sql_tree.specs.declared.query.Window.{Window}
use Rattle.sql_tree.specs.declared.query.WindowKind.{WindowKind}
use Rattle.sql_bound.specs.declared.expr.Expr.{Expr}
use Rattle.sql_bound.specs.declared.expr.Expr as expr
use Rattle.sql_bound.specs.declared.expr.BoundTerm.{BoundTerm}
use Rattle.sql_bound.specs.declared.query.Aggregate.{Aggregate}
use Rattle.sql_bound.specs.declared.query.BoundWindow.{BoundWindow}
use Rattle.sql_binding.specs.Sight.{Seen, place_of}

-- Where names are looked up: the columns in sight, the place of the last FROM item that is in reach, and the GROUP BY columns.
pub record Scope : Type 0 where
  pub seen : List Seen
  pub last : ℕ
  pub keys : List ℕ

-- An expression, bound: over a row; over a group, where its first aggregate has a given number; and its aggregates in the order of
-- the text.
pub record Bound (X : Type 0) : Type 0 where
  pub row : X
  pub group : ℕ → X
  pub aggs : List Aggregate

abbrev pub all_aggs : {X : Type 0} → List (Bound X) → List Aggregate
all_aggs parts = flat_map (λ p. p.aggs) parts

-- over a row
abbrev pub rows_of : {X : Type 0} → List (Bound X) → List X
rows_of parts = map (λ p. p.row) parts

-- over a group, each with the numbers behind those of the parts before it
abbrev pub groups_of : {X : Type 0} → List (Bound X) → ℕ → List X
groups_of [] n = []
groups_of (p ∷ ps) n = p.group n ∷ groups_of ps (n + length p.aggs)

-- a column by its place among all, and by its first place in GROUP BY
abbrev pub column_of : Scope → ColRef → ℕ
column_of s r = place_of s.seen s.last r

abbrev pub key_of : List ℕ → ℕ → ℕ
key_of keys column = option_map_or (λ i. i) (position (λ k. k == column) keys) 0

abbrev pub without_aggregate : Expr → Bound Expr
without_aggregate e = record { row = e; group = λ n. e; aggs = [] }

abbrev pub bound_column : Scope → ℕ → Bound Expr
bound_column s column = record { row = expr.Col column; group = λ n. expr.Key (key_of s.keys column); aggs = [] }

abbrev pub bound_part : (Expr → Expr) → Bound Expr → Bound Expr
bound_part f a = record { row = f a.row; group = λ n. f (a.group n); aggs = a.aggs }

abbrev pub bound_parts : {X : Type 0} → (List X → Expr) → List (Bound X) → Bound Expr
bound_parts f parts = record { row = f (rows_of parts); group = λ n. f (groups_of parts n); aggs = all_aggs parts }

abbrev pub bound_pair : (Expr → Expr → Expr) → Bound Expr → Bound Expr → Bound Expr
bound_pair f a b = record { row = f a.row b.row; group = λ n. f (a.group n) (b.group (n + length a.aggs)); aggs = a.aggs ++ b.aggs }

-- an aggregate stands over rows; in a row there is none, and it counts as NULL there
abbrev pub bound_aggregate : AggKind → Option (Bound Expr) → Bound Expr
bound_aggregate k a = record { row = expr.Lit wide.Null; group = λ n. expr.Agg n; aggs = record { kind = k; arg = option_map (λ p. p.row) a } ∷ [] }

abbrev pub bind_step : Scope → Tree-F (Bound Expr) (Bound BoundTerm) → Bound Expr
bind_step s (Tree-F.Lit w) = without_aggregate (expr.Lit w)
bind_step s (Tree-F.Col r) = bound_column s (column_of s r)
bind_step s (Tree-F.Neg a) = bound_part expr.Neg a
bind_step s (Tree-F.Sum terms) = bound_parts expr.Sum terms
bind_step s (Tree-F.Product parts) = bound_parts expr.Product parts
bind_step s (Tree-F.Compare a c b) = bound_pair (λ x y. expr.Compare x c y) a b
bind_step s (Tree-F.IsNull a) = bound_part expr.IsNull a
bind_step s (Tree-F.Not a) = bound_part expr.Not a
bind_step s (Tree-F.And parts) = bound_parts expr.And parts
bind_step s (Tree-F.Or parts) = bound_parts expr.Or parts
bind_step s (Tree-F.Agg k a) = bound_aggregate k a

abbrev pub term_with : Term-F (Bound Expr) (Bound BoundTerm) → Expr → BoundTerm
term_with t e = record { minus = t.minus; part = e }

abbrev pub bind_term : Term-F (Bound Expr) (Bound BoundTerm) → Bound BoundTerm
bind_term t = record { row = term_with t t.part.row; group = λ n. term_with t (t.part.group n); aggs = t.part.aggs }

abbrev pub bound : Scope → Tree → Bound Expr
bound s = fold-Tree (Bound Expr) (Bound BoundTerm) (bind_step s) bind_term

abbrev pub bound_term : Scope → Term → Bound BoundTerm
bound_term s = fold-Term (Bound Expr) (Bound BoundTerm) (bind_step s) bind_term

-- ---- items

-- a window: its places, and the aggregate that it is over its frame; a number of a row counts tuples
abbrev pub bound_window : Scope → Window → BoundWindow
bound_window s w = record { kind = w.kind; partition = map (column_of s) w.partition; order = map (λ k. (column_of s k.column, k.descending)) w.order }

abbrev pub aggregate_kind : WindowKind → AggKind
aggregate_kind WindowKind.RowNumber = AggKind.CountAll
aggregate_kind WindowKind.Rank = AggKind.CountAll
aggregate_kind WindowKind.CountAll = AggKind.CountAll
aggregate_kind WindowKind.Count = AggKind.Count
aggregate_kind WindowKind.Sum = AggKind.Sum

abbrev pub window_aggregate : Scope → Window → Aggregate
window_aggregate s w = record { kind = aggregate_kind w.kind; arg = option_map (λ tree. (bound s tree).row) w.arg }

abbrev pub windows_in : ItemTree → List Window
windows_in (ItemTree.Plain tree) = []
windows_in (ItemTree.Window w) = w ∷ []

-- an item before which so many windows stand: a window is its value
abbrev pub bound_item : Scope → ℕ → ItemTree → Bound Expr
bound_item s before (ItemTree.Plain tree) = bound s tree
bound_item s before (ItemTree.Window w) = without_aggregate (expr.Agg before)

abbrev pub items_behind : Scope → ℕ → List Item → List (Bound Expr)
items_behind s before [] = []
items_behind s before (i ∷ items) = bound_item s before i.tree ∷ items_behind s (before + length (windows_in i.tree)) items
