-- Which columns a query uses.
use Rattle.std.specs.Prelude.{ℕ, ◌+◌, ◌==◌, ◌++◌, if◌then◌else◌, Bool, List, [], ◌∷◌, map}
use Rattle.std.specs.List.{flat_map, list_any}
use Rattle.std.specs.Option.{option_map_or}
use Rattle.col_value.specs.declared.value.Value.{Value}
use Rattle.col_value.specs.declared.value.Value.TheVariants as value
use Rattle.sql_bound.specs.declared.expr.Expr.{Expr}
use Rattle.sql_bound.specs.declared.expr.Expr.TheOpen.{Expr-F, BoundTerm-F}
use Rattle.sql_bound.specs.declared.expr.Expr.TheFolds.{fold-Expr}
use Rattle.sql_bound.specs.declared.query.BoundQuery.{BoundQuery}
use Rattle.sql_bound.specs.declared.query.BoundWindow.{BoundWindow}

-- the columns that an expression looks at
abbrev pub columns_step : Expr-F (List ℕ) (List ℕ) → List ℕ
columns_step (Expr-F.Lit w) = []
columns_step (Expr-F.Col i) = i ∷ []
columns_step (Expr-F.Key i) = []
columns_step (Expr-F.Agg i) = []
columns_step (Expr-F.Neg a) = a
columns_step (Expr-F.Sum parts) = flat_map (λ p. p) parts
columns_step (Expr-F.Product parts) = flat_map (λ p. p) parts
columns_step (Expr-F.Compare a c b) = a ++ b
columns_step (Expr-F.IsNull a) = a
columns_step (Expr-F.Not a) = a
columns_step (Expr-F.And parts) = flat_map (λ p. p) parts
columns_step (Expr-F.Or parts) = flat_map (λ p. p) parts

abbrev pub columns_term : BoundTerm-F (List ℕ) (List ℕ) → List ℕ
columns_term t = t.part

abbrev pub columns_of : Expr → List ℕ
columns_of = fold-Expr (List ℕ) (List ℕ) columns_step columns_term

-- those of PARTITION BY and ORDER BY of a window
abbrev pub columns_of_window : BoundWindow → List ℕ
columns_of_window w = w.partition ++ map (λ k. k.0) w.order

-- the columns that a query uses: those of its conditions, its GROUP BY, its aggregates, its windows and, where it isn't grouped, its items
abbrev pub used_columns : BoundQuery → List ℕ
used_columns q =
    flat_map columns_of q.keep
    ++ (q.keys ++ (flat_map (λ a. option_map_or columns_of a.arg []) q.aggs ++ (flat_map columns_of_window q.windows ++ (if q.grouped then [] else flat_map columns_of q.items))))

-- the query uses a column, by its place among those of all FROM items
abbrev pub is_used : BoundQuery → ℕ → Bool
is_used q c = list_any (λ u. u == c) (used_columns q)

-- a row with NULL in the columns that don't pass a test; its first column has this place
abbrev pub blanked : (ℕ → Bool) → ℕ → List Value → List Value
blanked test first [] = []
blanked test first (v ∷ row) = (if test first then v else value.Null) ∷ blanked test (first + 1) row
