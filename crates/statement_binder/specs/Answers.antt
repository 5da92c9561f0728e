-- What the binder answers for a query.
use Rattle.std.specs.Prelude.{◌≡◌, ℕ, List, Option, Some, None, map, option_map}
use Rattle.col_value.specs.declared.column.Column.{Column}
use Rattle.sql_tree.specs.declared.query.Query.{Query}
use Rattle.sql_bound.specs.declared.query.BoundQuery.{BoundQuery}
use Rattle.sql_tree.specs.declared.refusal.Refusal.{Refusal}
use Rattle.sql_binding.specs.Firsts.{all_there, first_of}
use Rattle.sql_binding.specs.Sight.{Seen}
use Rattle.sql_binding.specs.Queries.{query_refusal, bound_query, bound_in, at_no_place, name_refusal, tree_refusal, from_limit}
use Rattle.name_binder.specs.Tables.{columns_found}

-- the query isn't refused, and this is its bound tree over its tables, which are all there
pub record IsBoundQuery (found : List (Option (ℕ × List Column))) (q : Query) (b : BoundQuery) : Type 0 where
  pub accepted : query_refusal (columns_found found) q ≡ None
  pub bound : option_map (λ tables. bound_query tables q) (all_there found) ≡ Some b

-- why a query whose names are right is refused, over tables with these columns
abbrev pub later_refusal : List Seen → List (List Column) → Query → Option Refusal
later_refusal seen tables q = first_of (tree_refusal seen (bound_in (map at_no_place tables) seen q)) (from_limit q)

-- why a query over these columns in sight is refused
abbrev pub seen_refusal : List Seen → List (List Column) → Query → Option Refusal
seen_refusal seen tables q = first_of (name_refusal seen q) (later_refusal seen tables q)
