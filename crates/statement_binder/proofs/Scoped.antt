-- A query that is bound in the scope of its FROM items and its GROUP BY.
use Rattle.std.proofs.Common.{◌≡◌, refl, ap, ◌∙◌, sym, ℕ, List, Bool, true, false, Option}
use Rattle.std.specs.Prelude.{if◌then◌else◌, ◌++◌, length, option_map}
use Rattle.col_value.specs.declared.column.Column.{Column}
use Rattle.sql_tree.specs.declared.query.Items.{Items}
use Rattle.sql_tree.specs.declared.query.Query.{Query}
use Rattle.sql_bound.specs.declared.expr.Expr.{Expr}
use Rattle.sql_bound.specs.declared.query.BoundQuery.{BoundQuery}
use Rattle.sql_binding.specs.Sight.{Seen}
use Rattle.sql_binding.specs.Trees.{Scope, Bound, rows_of, groups_of, all_aggs}
use Rattle.sql_binding.specs.Outputs.{output_names}
use Rattle.sql_binding.specs.Uses.{is_grouped}
use Rattle.sql_binding.specs.Queries.{whole_scope, bound_items, bound_having, aggs_of_having, bound_in, over_rows, over_groups}
use Rattle.statement_binder.specs.Scopes.{items_in, rows_query, groups_query}

same_items : (seen : List Seen) (q : Query) (items : Items) → items_in (whole_scope seen q) items ≡ bound_items seen q items
same_items seen q Items.Star = refl
same_items seen q (Items.Listed items) = refl

-- the items put into a query over rows, and into one over groups
abbrev rows_having : List (ℕ × List Column) → List Seen → Query → List (Bound Expr) → BoundQuery
rows_having tables seen q items = record (over_rows tables seen q) { items = rows_of items }

rows_bound : (tables : List (ℕ × List Column)) (seen : List Seen) (q : Query) → rows_query (whole_scope seen q) tables (output_names seen q.items) q ≡ over_rows tables seen q
rows_bound tables seen q = ap (λ (items : List (Bound Expr)). rows_having tables seen q items) (same_items seen q q.items)

abbrev groups_having : List (ℕ × List Column) → List Seen → Query → List (Bound Expr) → BoundQuery
groups_having tables seen q items = record (over_groups tables seen q) {
  aggs = all_aggs items ++ aggs_of_having (bound_having seen q);
  having = option_map (λ b. b.group (length (all_aggs items))) (bound_having seen q);
  items = groups_of items 0;
}

groups_bound : (tables : List (ℕ × List Column)) (seen : List Seen) (q : Query) → groups_query (whole_scope seen q) tables (output_names seen q.items) q ≡ over_groups tables seen q
groups_bound tables seen q = ap (λ (items : List (Bound Expr)). groups_having tables seen q items) (same_items seen q q.items)

pub bound_rows : (tables : List (ℕ × List Column)) (seen : List Seen) (outputs : List (Option (List ℕ))) (s : Scope) (q : Query)
    → is_grouped q ≡ false → outputs ≡ output_names seen q.items → s ≡ whole_scope seen q → rows_query s tables outputs q ≡ bound_in tables seen q
bound_rows tables seen outputs s q so o e =
    ap (λ (names : List (Option (List ℕ))). rows_query s tables names q) o
    ∙ (ap (λ (t : Scope). rows_query t tables (output_names seen q.items) q) e
    ∙ (rows_bound tables seen q ∙ ap (λ (b : Bool). if b then over_groups tables seen q else over_rows tables seen q) (sym so)))

pub bound_groups : (tables : List (ℕ × List Column)) (seen : List Seen) (outputs : List (Option (List ℕ))) (s : Scope) (q : Query)
    → is_grouped q ≡ true → outputs ≡ output_names seen q.items → s ≡ whole_scope seen q → groups_query s tables outputs q ≡ bound_in tables seen q
bound_groups tables seen outputs s q so o e =
    ap (λ (names : List (Option (List ℕ))). groups_query s tables names q) o
    ∙ (ap (λ (t : Scope). groups_query t tables (output_names seen q.items) q) e
    ∙ (groups_bound tables seen q ∙ ap (λ (b : Bool). if b then over_groups tables seen q else over_rows tables seen q) (sym so)))
