-- What is so of all values and expressions.
use Rattle.std.specs.Prelude.{◌≡◌, ◌≤◌, ◌++◌, Bool, true, false, List, ◌∷◌, map}
use Rattle.std.specs.List.{All}
use Rattle.col_value.specs.declared.wide.Wide.{Wide}
use Rattle.col_value.specs.declared.wide.Wide.TheVariants as wide
use Rattle.col_value.specs.Order.{IsValue}
use Rattle.sql_tree.specs.declared.tree.Cmp.{Cmp}
use Rattle.sql_bound.specs.declared.expr.Expr.{Expr}
use Rattle.sql_bound.specs.Bounds.{bound_of_value, bound_of, is_narrow, result_bound}
use Rattle.sql_bound.specs.Values.{Scope, value_of, compared, all_of, some_of, is_true}

-- no comparison is true of NULL, on whichever side it stands
abbrev pub NullJoinsNothing : Type 0
NullJoinsNothing = (c : Cmp) (w : Wide) → (is_true (compared c wide.Null w) ≡ false) × (is_true (compared c w wide.Null) ≡ false)

-- AND with a false part, and OR with a true one
abbrev pub FalseSettles : Type 0
FalseSettles = (before behind : List Wide) → all_of (before ++ wide.Bool false ∷ behind) ≡ wide.Bool false

abbrev pub TrueSettles : Type 0
TrueSettles = (before behind : List Wide) → some_of (before ++ wide.Bool true ∷ behind) ≡ wide.Bool true

-- over values of a table
abbrev pub IsValueBounded : Type 0
IsValueBounded =
    (s : Scope) (e : Expr) → All IsValue s.row → All IsValue s.keys
    → bound_of_value (value_of s e) ≤ bound_of (map bound_of_value s.aggs) e

abbrev pub IsNarrowFitting : Type 0
IsNarrowFitting =
    (s : Scope) (e : Expr) → All IsValue s.row → All IsValue s.keys → is_narrow (map bound_of_value s.aggs) e ≡ true
    → bound_of_value (value_of s e) ≤ result_bound
