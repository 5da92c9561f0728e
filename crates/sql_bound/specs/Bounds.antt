-- The static bound of an expression: no value of it is greater in magnitude.
use Rattle.std.specs.Prelude.{ℕ, ℤ, pos, negsuc, suc, ◌+◌, ◌*◌, ◌-◌, ◌^◌, ◌&&◌, nat_le, Bool, true, false, List, [], map, fold, Option, Some, None}
use Rattle.std.specs.List.{list_all, slice_index_or}
use Rattle.std.specs.Option.{option_map_or}
use Rattle.col_value.specs.declared.wide.Wide.{Wide}
use Rattle.col_value.specs.declared.wide.Wide.TheVariants as wide
use Rattle.sql_tree.specs.declared.tree.AggKind.{AggKind}
use Rattle.sql_bound.specs.declared.expr.Expr.{Expr}
use Rattle.sql_bound.specs.declared.expr.Expr.TheOpen.{Expr-F, BoundTerm-F}
use Rattle.sql_bound.specs.declared.expr.Expr.TheFolds.{fold-Expr}
use Rattle.sql_bound.specs.declared.query.Aggregate.{Aggregate}

-- the greatest number of a column, and of a result
abbrev pub column_bound : ℕ
column_bound = 9223372036854775807

abbrev pub result_bound : ℕ
result_bound = 170141183460469231731687303715884105727

abbrev pub magnitude : ℤ → ℕ
magnitude (pos n) = n
magnitude (negsuc n) = n + 1

-- the bound of a value; what is no number counts 0
abbrev pub bound_of_value : Wide → ℕ
bound_of_value wide.Null = 0
bound_of_value (wide.Bool b) = 0
bound_of_value (wide.Int n) = magnitude n
bound_of_value (wide.Date d) = 0
bound_of_value (wide.Text t) = 0

-- the sum and the product of all
abbrev pub total : List ℕ → ℕ
total ns = fold ◌+◌ 0 ns

abbrev pub product : List ℕ → ℕ
product ns = fold ◌*◌ 1 ns

-- A sum has the sum of its parts' bounds, a product their product, and a minus the bound of its part.
abbrev pub bound_step : List ℕ → Expr-F ℕ ℕ → ℕ
bound_step aggs (Expr-F.Lit w) = bound_of_value w
bound_step aggs (Expr-F.Col i) = column_bound
bound_step aggs (Expr-F.Key i) = column_bound
bound_step aggs (Expr-F.Agg i) = slice_index_or aggs i 0
bound_step aggs (Expr-F.Neg a) = a
bound_step aggs (Expr-F.Sum parts) = total parts
bound_step aggs (Expr-F.Product parts) = product parts
bound_step aggs (Expr-F.Compare a c b) = 0
bound_step aggs (Expr-F.IsNull a) = 0
bound_step aggs (Expr-F.Not a) = 0
bound_step aggs (Expr-F.And parts) = 0
bound_step aggs (Expr-F.Or parts) = 0

abbrev pub term_bound : BoundTerm-F ℕ ℕ → ℕ
term_bound t = t.part

-- the bound of an expression, where the aggregates have these bounds
abbrev pub bound_of : List ℕ → Expr → ℕ
bound_of aggs = fold-Expr ℕ ℕ (bound_step aggs) term_bound

-- an expression with its bound, and whether each number in it, itself included, is within what a result holds
abbrev pub within : ℕ × Bool → Bool
within m = nat_le m.0 result_bound && m.1

abbrev pub bounds : List (ℕ × Bool) → List ℕ
bounds ms = map (λ m. m.0) ms

abbrev pub all_narrow : List (ℕ × Bool) → Bool
all_narrow ms = list_all (λ m. m.1) ms

-- what is no number has no bound to pass: only its parts are asked
abbrev pub measure_step : List ℕ → Expr-F (ℕ × Bool) (ℕ × Bool) → ℕ × Bool
measure_step aggs (Expr-F.Lit w) = (bound_of_value w, nat_le (bound_of_value w) result_bound)
measure_step aggs (Expr-F.Col i) = (column_bound, true)
measure_step aggs (Expr-F.Key i) = (column_bound, true)
measure_step aggs (Expr-F.Agg i) = (slice_index_or aggs i 0, nat_le (slice_index_or aggs i 0) result_bound)
measure_step aggs (Expr-F.Neg a) = (a.0, within a)
measure_step aggs (Expr-F.Sum ms) = (total (bounds ms), nat_le (total (bounds ms)) result_bound && all_narrow ms)
measure_step aggs (Expr-F.Product ms) = (product (bounds ms), nat_le (product (bounds ms)) result_bound && all_narrow ms)
measure_step aggs (Expr-F.Compare a c b) = (0, a.1 && b.1)
measure_step aggs (Expr-F.IsNull a) = (0, a.1)
measure_step aggs (Expr-F.Not a) = (0, a.1)
measure_step aggs (Expr-F.And ms) = (0, all_narrow ms)
measure_step aggs (Expr-F.Or ms) = (0, all_narrow ms)

abbrev pub term_measure : BoundTerm-F (ℕ × Bool) (ℕ × Bool) → ℕ × Bool
term_measure t = t.part

abbrev pub measure : List ℕ → Expr → ℕ × Bool
measure aggs = fold-Expr (ℕ × Bool) (ℕ × Bool) (measure_step aggs) term_measure

-- each part of the expression that is a number has a static bound of at most 2^127 - 1
abbrev pub is_narrow : List ℕ → Expr → Bool
is_narrow aggs e = (measure aggs e).1

-- the bound of an aggregate: a count is a column's number, a sum a result's, and the least and the greatest value are values of the argument
abbrev pub bound_over : AggKind → ℕ → ℕ
bound_over AggKind.CountAll n = column_bound
bound_over AggKind.Count n = column_bound
bound_over AggKind.Sum n = result_bound
bound_over AggKind.Min n = n
bound_over AggKind.Max n = n

abbrev pub bound_of_aggregate : Aggregate → ℕ
bound_of_aggregate a = bound_over a.kind (option_map_or (bound_of []) a.arg 0)

-- the expression looks at columns of rows alone
abbrev pub row_step : Expr-F Bool Bool → Bool
row_step (Expr-F.Lit w) = true
row_step (Expr-F.Col i) = true
row_step (Expr-F.Key i) = false
row_step (Expr-F.Agg i) = false
row_step (Expr-F.Neg a) = a
row_step (Expr-F.Sum parts) = list_all (λ b. b) parts
row_step (Expr-F.Product parts) = list_all (λ b. b) parts
row_step (Expr-F.Compare a c b) = a && b
row_step (Expr-F.IsNull a) = a
row_step (Expr-F.Not a) = a
row_step (Expr-F.And parts) = list_all (λ b. b) parts
row_step (Expr-F.Or parts) = list_all (λ b. b) parts

abbrev pub row_term : BoundTerm-F Bool Bool → Bool
row_term t = t.part

abbrev pub is_of_rows : Expr → Bool
is_of_rows = fold-Expr Bool Bool row_step row_term

-- an expression over rows that has static bounds
abbrev pub is_plain : Expr → Bool
is_plain e = is_of_rows e && is_narrow [] e
