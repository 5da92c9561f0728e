-- Parts of a sum, and what is asked of sums and products.
use Rattle.std.specs.Prelude.{ℕ, ℤ, pos, ◌+ℤ◌, ◌*ℤ◌, ◌&&◌, nat_le, Bool, true, false, List, map, fold, Option, Some, option_map}
use Rattle.std.specs.Int.{int_wrap, w128}
use Rattle.col_value.specs.declared.wide.Wide.{Wide}
use Rattle.sql_bound.specs.declared.expr.BoundTerm.{BoundTerm}
use Rattle.sql_bound.specs.declared.expr.Expr.TheFolds.{fold-BoundTerm}
use Rattle.sql_bound.specs.Bounds.{measure_step, term_measure, bound_step, term_bound, total, product, bounds, all_narrow, result_bound}
use Rattle.sql_bound.specs.Values.{Scope, value_step, term_step, of_both, number_in, truth_in, both_hold, one_holds}

-- the value of a part of a sum
abbrev pub term_value : Scope → BoundTerm → Wide
term_value s = fold-BoundTerm Wide Wide (value_step s) term_step

-- its bound
abbrev pub bound_of_term : List ℕ → BoundTerm → ℕ
bound_of_term aggs = fold-BoundTerm ℕ ℕ (bound_step aggs) term_bound

-- its bound, and whether it is narrow
abbrev pub measure_of_term : List ℕ → BoundTerm → ℕ × Bool
measure_of_term aggs = fold-BoundTerm (ℕ × Bool) (ℕ × Bool) (measure_step aggs) term_measure

-- a sum and a product of such parts is narrow
abbrev pub is_narrow_sum : List (ℕ × Bool) → Bool
is_narrow_sum ms = nat_le (total (bounds ms)) result_bound && all_narrow ms

abbrev pub is_narrow_product : List (ℕ × Bool) → Bool
is_narrow_product ms = nat_le (product (bounds ms)) result_bound && all_narrow ms

-- the sum, the product, AND and OR of some values
abbrev pub added : List Wide → Option ℤ
added ws = fold (of_both ◌+ℤ◌) (Some (pos 0)) (map number_in ws)

abbrev pub multiplied : List Wide → Option ℤ
multiplied ws = fold (of_both ◌*ℤ◌) (Some (pos 1)) (map number_in ws)

abbrev pub all_hold : List Wide → Option Bool
all_hold ws = fold both_hold (Some true) (map truth_in ws)

abbrev pub some_hold : List Wide → Option Bool
some_hold ws = fold one_holds (Some false) (map truth_in ws)

-- a number as it is left in 128 bits
abbrev pub wrapped : Option ℤ → Option ℤ
wrapped o = option_map (int_wrap w128) o
