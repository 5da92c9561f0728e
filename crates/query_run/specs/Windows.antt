-- The values of windows beside rows.
use Rattle.std.specs.Prelude.{◌≡◌, true, List, map, zip}
use Rattle.std.specs.List.{All, Contains, enumerate_from}
use Rattle.col_value.specs.Order.{IsRow}
use Rattle.col_value.specs.declared.value.Value.{Value}
use Rattle.col_value.specs.declared.wide.Wide.{Wide}
use Rattle.sql_bound.specs.declared.query.Aggregate.{Aggregate}
use Rattle.sql_bound.specs.declared.query.BoundQuery.{BoundQuery}
use Rattle.sql_bound.specs.declared.query.BoundWindow.{BoundWindow}
use Rattle.sql_bound.specs.Bounds.{bound_of_value, is_narrow}
use Rattle.sql_bound.specs.Outputs.{window_scope, window_value}
use Rattle.exec_window.specs.Partitions.{HasGreatPartition}

-- the values of one window, down the rows
abbrev pub column_of : List (List Value) → BoundWindow × Aggregate → List Wide
column_of rows p = map (λ t. window_value rows t p) (enumerate_from 0 rows)

-- a column for each window
abbrev pub AreColumns : BoundQuery → List (List Value) → List (List Wide) → Type 0
AreColumns q rows columns = columns ≡ map (column_of rows) (zip q.windows q.aggs)

-- some window's sum is too great in the partition of some row
abbrev pub HasGreatWindow : BoundQuery → List (List Value) → Type 0
HasGreatWindow q rows = (p : BoundWindow × Aggregate) × Contains (zip q.windows q.aggs) p × HasGreatPartition p.0 p.1 rows

-- the columns are those of the windows, and the items are narrow beside their values
pub record AreBeside (q : BoundQuery) (seen : List (List Value)) (beside : List (List Wide)) : Type 0 where
  pub rows : All IsRow seen
  pub columns : AreColumns q seen beside
  pub narrow : All (λ t. All (λ e. is_narrow (map bound_of_value (window_scope q seen t).aggs) e ≡ true) q.items) (enumerate_from 0 seen)
