-- What a query's expressions may count on in a group.
use Rattle.std.specs.Prelude.{ℕ, ◌≤◌, Bool, true, List, map, slice_index_or}
use Rattle.std.specs.Option.{option_map_or}
use Rattle.std.specs.List.{Contains}
use Rattle.col_value.specs.Order.{IsRow}
use Rattle.col_value.specs.declared.value.Value.{Value}
use Rattle.sql_bound.specs.declared.query.Aggregate.{Aggregate}
use Rattle.sql_bound.specs.declared.query.BoundQuery.{BoundQuery}
use Rattle.sql_bound.specs.Bounds.{bound_of_value, bound_of_aggregate}
use Rattle.sql_bound.specs.Outputs.{IsGreatSum}
use Rattle.sql_bound.specs.Values.{Scope, is_true, value_of}

-- its keys are values, and no aggregate is greater than its bound
pub record IsGroupOf (q : BoundQuery) (s : Scope) : Type 0 where
  pub keys : IsRow s.keys
  pub aggs : (i : ℕ) → slice_index_or (map bound_of_value s.aggs) i 0 ≤ slice_index_or (map bound_of_aggregate q.aggs) i 0

-- one of the aggregates is a SUM over values whose magnitudes add to more than a result holds
abbrev pub HasGreatSum : List Aggregate → List (List Value) → Type 0
HasGreatSum aggs rows = (a : Aggregate) × Contains aggs a × IsGreatSum rows a

-- HAVING keeps the group
abbrev pub is_shown : BoundQuery → Scope → Bool
is_shown q s = option_map_or (λ e. is_true (value_of s e)) q.having true
