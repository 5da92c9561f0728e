-- Which expressions hold aggregates, and what the items of a list let stand behind them.
use Rattle.std.specs.Prelude.{◌||◌, if◌then◌else◌, Bool, true, false}
use Rattle.std.specs.List.{list_any}
use Rattle.sql_tree.specs.declared.tree.Term.{Term}
use Rattle.sql_tree.specs.declared.tree.Tree.{Tree}
use Rattle.sql_tree.specs.declared.tree.Tree.TheOpen.{Tree-F, Term-F}
use Rattle.sql_tree.specs.declared.tree.Tree.TheFolds.{fold-Tree, fold-Term}
use Rattle.sql_tree.specs.declared.query.Item.{Item}
use Rattle.sql_tree.specs.declared.query.ItemTree.{ItemTree}
use Rattle.sql_tree.specs.declared.query.Items.{Items}
use Rattle.sql_tree.specs.declared.query.ListMode.{ListMode}

abbrev pub aggregate_step : Tree-F Bool Bool → Bool
aggregate_step (Tree-F.Lit w) = false
aggregate_step (Tree-F.Col r) = false
aggregate_step (Tree-F.Neg a) = a
aggregate_step (Tree-F.Sum parts) = list_any (λ b. b) parts
aggregate_step (Tree-F.Product parts) = list_any (λ b. b) parts
aggregate_step (Tree-F.Compare a c b) = a || b
aggregate_step (Tree-F.IsNull a) = a
aggregate_step (Tree-F.Not a) = a
aggregate_step (Tree-F.And parts) = list_any (λ b. b) parts
aggregate_step (Tree-F.Or parts) = list_any (λ b. b) parts
aggregate_step (Tree-F.Agg k a) = true

abbrev pub aggregate_term : Term-F Bool Bool → Bool
aggregate_term t = t.part

-- an aggregate stands in an expression
abbrev pub has_aggregate : Tree → Bool
has_aggregate = fold-Tree Bool Bool aggregate_step aggregate_term

abbrev pub term_has_aggregate : Term → Bool
term_has_aggregate = fold-Term Bool Bool aggregate_step aggregate_term

-- what a plain item leaves: one with an aggregate lets no window stand behind it
abbrev pub after_plain : ListMode → Bool → ListMode
after_plain ListMode.Free aggregate = if aggregate then ListMode.Grouped else ListMode.Free
after_plain ListMode.Grouped aggregate = ListMode.Grouped
after_plain ListMode.Windowed aggregate = ListMode.Windowed

abbrev pub after_tree : ListMode → ItemTree → ListMode
after_tree m (ItemTree.Plain e) = after_plain m (has_aggregate e)
after_tree m (ItemTree.Window w) = ListMode.Windowed

-- what an item leaves to the rest of its list
abbrev pub after_item : ListMode → Item → ListMode
after_item m i = after_tree m i.tree

abbrev pub is_window_tree : ItemTree → Bool
is_window_tree (ItemTree.Plain e) = false
is_window_tree (ItemTree.Window w) = true

abbrev pub is_window : Item → Bool
is_window i = is_window_tree i.tree

-- a window function stands among the items
abbrev pub is_windowed : Items → Bool
is_windowed Items.Star = false
is_windowed (Items.Listed items) = list_any is_window items
