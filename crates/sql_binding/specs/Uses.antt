-- The columns that the clauses of a statement name, in the order of the text, and which queries are grouped.
use Rattle.std.specs.Prelude.{◌||◌, not, Bool, true, false, List, [], ◌∷◌, ◌++◌, map, Option, is_some}
use Rattle.std.specs.List.{list_any, flat_map}
use Rattle.std.specs.Option.{option_map_or}
use Rattle.sql_tree.specs.declared.tree.ColRef.{ColRef}
use Rattle.sql_tree.specs.declared.tree.Tree.{Tree}
use Rattle.sql_tree.specs.declared.tree.Tree.TheOpen.{Tree-F, Term-F}
use Rattle.sql_tree.specs.declared.tree.Tree.TheFolds.{fold-Tree}
use Rattle.sql_tree.specs.declared.query.Items.{Items}
use Rattle.sql_tree.specs.declared.query.ItemTree.{ItemTree}
use Rattle.sql_tree.specs.declared.query.Query.{Query}
use Rattle.sql_tree.specs.declared.query.Window.{Window}
use Rattle.sql_tree.specs.Modes.{has_aggregate}
use Rattle.sql_binding.specs.Firsts.{is_empty}

-- a column that an expression names, and whether it stands inside an aggregate
pub record Use : Type 0 where
  pub inside : Bool
  pub column : ColRef

abbrev pub used_outside : ColRef → Use
used_outside r = record { inside = false; column = r }

abbrev pub used_inside : Use → Use
used_inside u = record { inside = true; column = u.column }

abbrev pub uses_step : Tree-F (List Use) (List Use) → List Use
uses_step (Tree-F.Lit w) = []
uses_step (Tree-F.Col r) = used_outside r ∷ []
uses_step (Tree-F.Neg a) = a
uses_step (Tree-F.Sum parts) = flat_map (λ p. p) parts
uses_step (Tree-F.Product parts) = flat_map (λ p. p) parts
uses_step (Tree-F.Compare a c b) = a ++ b
uses_step (Tree-F.IsNull a) = a
uses_step (Tree-F.Not a) = a
uses_step (Tree-F.And parts) = flat_map (λ p. p) parts
uses_step (Tree-F.Or parts) = flat_map (λ p. p) parts
uses_step (Tree-F.Agg k a) = map used_inside (option_map_or (λ p. p) a [])

abbrev pub uses_term : Term-F (List Use) (List Use) → List Use
uses_term t = t.part

-- the columns that an expression names
abbrev pub uses : Tree → List Use
uses = fold-Tree (List Use) (List Use) uses_step uses_term

-- those of a condition, where there is one
abbrev pub condition_uses : Option Tree → List Use
condition_uses keep = option_map_or uses keep []

-- those of a window: its argument's, and those of PARTITION BY and ORDER BY
abbrev pub window_uses : Window → List Use
window_uses w = condition_uses w.arg ++ (map used_outside w.partition ++ map (λ k. used_outside k.column) w.order)

-- those of an item
abbrev pub item_uses : ItemTree → List Use
item_uses (ItemTree.Plain tree) = uses tree
item_uses (ItemTree.Window w) = window_uses w

-- an aggregate stands in an item, outside of a window
abbrev pub item_has_aggregate : ItemTree → Bool
item_has_aggregate (ItemTree.Plain tree) = has_aggregate tree
item_has_aggregate (ItemTree.Window w) = false

-- an aggregate stands among the items
abbrev pub have_aggregate : Items → Bool
have_aggregate Items.Star = false
have_aggregate (Items.Listed items) = list_any (λ i. item_has_aggregate i.tree) items

-- a query is grouped where it has GROUP BY, HAVING or an aggregate
abbrev pub is_grouped : Query → Bool
is_grouped q = not (is_empty q.group) || (is_some q.having || have_aggregate q.items)
