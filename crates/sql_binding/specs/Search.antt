-- A search through the text of a query: what is looked for at each place that names something, and the first place where it is found.
use Rattle.std.specs.Prelude.{ℕ, false, List, length, Option}
use Rattle.std.specs.List.{enumerate_from}
use Rattle.sql_tree.specs.declared.tree.ColRef.{ColRef}
use Rattle.sql_tree.specs.declared.tree.Tree.{Tree}
use Rattle.sql_tree.specs.declared.query.Items.{Items}
use Rattle.sql_tree.specs.declared.query.ItemTree.{ItemTree}
use Rattle.sql_tree.specs.declared.query.KeyRef.{KeyRef}
use Rattle.sql_tree.specs.declared.query.Source.{Source}
use Rattle.sql_tree.specs.declared.query.Query.{Query}
use Rattle.sql_binding.specs.Firsts.{first_of, first_given}
use Rattle.sql_binding.specs.Uses.{Use, used_outside, uses, item_uses, condition_uses, is_grouped}
use Rattle.sql_binding.specs.Sight.{Reach}

-- what is named at `*`, at a FROM item by its place, at a column within a clause's reach, and at a key of ORDER BY
pub record Search : Type 0 where
  pub star : Option (List ℕ)
  pub source : ℕ → Source → Option (List ℕ)
  pub column : Reach → Use → Option (List ℕ)
  pub key : KeyRef → Option (List ℕ)

-- ON sees the FROM items up to its own, WHERE and GROUP BY all of them
abbrev pub rows_to : ℕ → Reach
rows_to last = record { last = last; grouped = false }

abbrev pub whole_rows : Query → Reach
whole_rows q = rows_to (length q.sources)

-- the items and HAVING see the groups where the query is grouped
abbrev pub shown : Query → Reach
shown q = record { last = length q.sources; grouped = is_grouped q }

abbrev pub first_in_tree : Search → Reach → Tree → Option (List ℕ)
first_in_tree s reach tree = first_given (s.column reach) (uses tree)

abbrev pub first_in_item : Search → Reach → ItemTree → Option (List ℕ)
first_in_item s reach tree = first_given (s.column reach) (item_uses tree)

abbrev pub first_in_condition : Search → Reach → Option Tree → Option (List ℕ)
first_in_condition s reach keep = first_given (s.column reach) (condition_uses keep)

abbrev pub first_in_items : Search → Reach → Items → Option (List ℕ)
first_in_items s reach Items.Star = s.star
first_in_items s reach (Items.Listed items) = first_given (λ i. first_in_item s reach i.tree) items

-- a FROM item stands before its ON
abbrev pub first_in_source : Search → ℕ × Source → Option (List ℕ)
first_in_source s t = first_of (s.source t.0 t.1) (first_in_condition s (rows_to t.0) t.1.on)

abbrev pub first_in_sources : Search → List Source → Option (List ℕ)
first_in_sources s sources = first_given (first_in_source s) (enumerate_from 0 sources)

abbrev pub first_in_group : Search → Reach → List ColRef → Option (List ℕ)
first_in_group s reach group = first_given (λ r. s.column reach (used_outside r)) group

-- the first place of a query: items, FROM, WHERE, GROUP BY, HAVING and ORDER BY stand in this order
abbrev pub first_in_query : Search → Query → Option (List ℕ)
first_in_query s q =
    first_of (first_in_items s (shown q) q.items)
    (first_of (first_in_sources s q.sources)
    (first_of (first_in_condition s (whole_rows q) q.keep)
    (first_of (first_in_group s (whole_rows q) q.group)
    (first_of (first_in_condition s (shown q) q.having)
    (first_given (λ k. s.key k.key) q.order)))))
