-- The columns at which an expression looks.
use Rattle.std.specs.Prelude.{◌≡◌, ℕ, ◌==◌, ◌&&◌, ◌||◌, not, nat_le, nat_lt, Bool, true, List, slice_index_or}
use Rattle.std.specs.List.{list_all}
use Rattle.std.specs.Option.{option_map_or}
use Rattle.col_value.specs.declared.value.Value.{Value}
use Rattle.col_value.specs.declared.value.Value.TheVariants.{Null}
use Rattle.sql_bound.specs.declared.expr.BoundTerm.{BoundTerm}
use Rattle.sql_bound.specs.declared.expr.Expr.{Expr}
use Rattle.sql_bound.specs.declared.expr.Expr.TheOpen.{Expr-F, BoundTerm-F}
use Rattle.sql_bound.specs.declared.expr.Expr.TheFolds.{fold-BoundTerm, fold-Expr}
use Rattle.sql_bound.specs.declared.query.BoundQuery.{BoundQuery}
use Rattle.sql_bound.specs.declared.query.BoundWindow.{BoundWindow}
use Rattle.sql_bound.specs.Values.{of_row, value_of}

-- one level: each column passes the test
abbrev pub looks_step : (ℕ → Bool) → Expr-F Bool Bool → Bool
looks_step test (Expr-F.Lit w) = true
looks_step test (Expr-F.Col i) = test i
looks_step test (Expr-F.Key i) = true
looks_step test (Expr-F.Agg i) = true
looks_step test (Expr-F.Neg a) = a
looks_step test (Expr-F.Sum parts) = list_all (λ b. b) parts
looks_step test (Expr-F.Product parts) = list_all (λ b. b) parts
looks_step test (Expr-F.Compare a c b) = a && b
looks_step test (Expr-F.IsNull a) = a
looks_step test (Expr-F.Not a) = a
looks_step test (Expr-F.And parts) = list_all (λ b. b) parts
looks_step test (Expr-F.Or parts) = list_all (λ b. b) parts

abbrev pub looks_term : BoundTerm-F Bool Bool → Bool
looks_term t = t.part

-- the expression looks only at columns that pass the test
abbrev pub looks_only : (ℕ → Bool) → Expr → Bool
looks_only test = fold-Expr Bool Bool (looks_step test) looks_term

abbrev pub term_looks_only : (ℕ → Bool) → BoundTerm → Bool
term_looks_only test = fold-BoundTerm Bool Bool (looks_step test) looks_term

-- the places from `low` on, and before `high`
abbrev pub is_between : ℕ → ℕ → ℕ → Bool
is_between low high i = nat_le low i && nat_lt i high

-- two rows have the same values in the columns that pass the test
abbrev pub AgreeOn : (ℕ → Bool) → List Value → List Value → Type 0
AgreeOn test a b = (i : ℕ) → test i ≡ true → slice_index_or a i Null ≡ slice_index_or b i Null

-- an expression has the same value over rows that agree in the columns at which it looks
abbrev pub ColumnsDecide : Type 0
ColumnsDecide = (test : ℕ → Bool) (a b : List Value) (e : Expr) → AgreeOn test a b → looks_only test e ≡ true → value_of (of_row a) e ≡ value_of (of_row b) e

-- the places but one
abbrev pub is_other : ℕ → ℕ → Bool
is_other column i = not (i == column)

-- a window, and all parts of a query, look only at columns that pass the test
abbrev pub window_looks_only : (ℕ → Bool) → BoundWindow → Bool
window_looks_only test w = list_all test w.partition && list_all (λ k. test k.0) w.order

abbrev pub query_looks_only : (ℕ → Bool) → BoundQuery → Bool
query_looks_only test q =
    list_all (looks_only test) q.keep
    && (list_all test q.keys
    && (list_all (λ a. option_map_or (looks_only test) a.arg true) q.aggs && (list_all (window_looks_only test) q.windows && (q.grouped || list_all (looks_only test) q.items))))
