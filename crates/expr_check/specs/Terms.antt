-- Parts of a sum, and what is asked of sums and products.
use Rattle.std.specs.Prelude.{ℕ, ◌&&◌, nat_le, Bool, List, Option}
use Rattle.sql_bound.specs.declared.expr.Kind.{Kind}
use Rattle.sql_bound.specs.declared.expr.BoundTerm.{BoundTerm}
use Rattle.sql_bound.specs.declared.expr.Expr.TheFolds.{fold-BoundTerm}
use Rattle.sql_bound.specs.Bounds.{measure_step, term_measure, total, product, bounds, all_narrow, result_bound}
use Rattle.sql_bound.specs.Kinds.{Kinds, kind_step, term_kind}

-- the kind of a part of a sum
abbrev pub term_kind_of : Kinds → BoundTerm → Option Kind
term_kind_of s = fold-BoundTerm (Option Kind) (Option Kind) (kind_step s) term_kind

-- its bound, and whether it is narrow
abbrev pub term_measure_of : List ℕ → BoundTerm → ℕ × Bool
term_measure_of aggs = fold-BoundTerm (ℕ × Bool) (ℕ × Bool) (measure_step aggs) term_measure

-- a sum and a product of such parts is narrow
abbrev pub is_narrow_sum : List (ℕ × Bool) → Bool
is_narrow_sum ms = nat_le (total (bounds ms)) result_bound && all_narrow ms

abbrev pub is_narrow_product : List (ℕ × Bool) → Bool
is_narrow_product ms = nat_le (product (bounds ms)) result_bound && all_narrow ms
