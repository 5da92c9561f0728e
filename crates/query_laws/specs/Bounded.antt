-- Queries whose expressions have static bounds.
use Rattle.std.specs.Prelude.{◌≡◌, ℕ, if◌then◌else◌, Bool, true, List, [], map, zip}
use Rattle.std.specs.List.{All}
use Rattle.std.specs.Option.{option_map_or}
use Rattle.sql_bound.specs.declared.query.Aggregate.{Aggregate}
use Rattle.sql_bound.specs.declared.query.BoundQuery.{BoundQuery}
use Rattle.sql_bound.specs.declared.query.BoundWindow.{BoundWindow}
use Rattle.sql_bound.specs.Bounds.{bound_of_aggregate, column_bound, is_narrow}
use Rattle.sql_tree.specs.declared.query.WindowKind.{WindowKind}

-- an aggregate whose argument has static bounds
abbrev pub is_bounded_aggregate : Aggregate → Bool
is_bounded_aggregate a = option_map_or (is_narrow []) a.arg true

-- a number of a row is a column's number, and what else a window is its aggregate's
abbrev pub window_bound : WindowKind → Aggregate → ℕ
window_bound WindowKind.RowNumber a = column_bound
window_bound WindowKind.Rank a = column_bound
window_bound WindowKind.CountAll a = bound_of_aggregate a
window_bound WindowKind.Count a = bound_of_aggregate a
window_bound WindowKind.Sum a = bound_of_aggregate a

abbrev pub bound_beside : BoundWindow × Aggregate → ℕ
bound_beside p = window_bound p.0.kind p.1

-- the bounds of the aggregates that items and HAVING may look at, and those of the windows beside a tuple
abbrev pub seen_bounds : BoundQuery → List ℕ
seen_bounds q = if q.grouped then map bound_of_aggregate q.aggs else map bound_beside (zip q.windows q.aggs)

-- The conditions, the arguments of the aggregates, the items and HAVING have static bounds: no number in them passes what a
-- result holds.
pub record IsBoundedQuery (q : BoundQuery) : Type 0 where
  pub keep : All (λ e. is_narrow [] e ≡ true) q.keep
  pub aggs : All (λ a. is_bounded_aggregate a ≡ true) q.aggs
  pub items : All (λ e. is_narrow (seen_bounds q) e ≡ true) q.items
  pub having : option_map_or (is_narrow (seen_bounds q)) q.having true ≡ true
