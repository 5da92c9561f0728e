-- Partitions whose sums are too great.
use Rattle.std.specs.Prelude.{List, filter}
use Rattle.std.specs.List.{Contains}
use Rattle.col_value.specs.declared.value.Value.{Value}
use Rattle.sql_bound.specs.declared.query.Aggregate.{Aggregate}
use Rattle.sql_bound.specs.declared.query.BoundWindow.{BoundWindow}
use Rattle.sql_bound.specs.Outputs.{in_partition, IsGreatSum}

-- the partition of some row has a SUM that passes what a result holds
abbrev pub HasGreatPartition : BoundWindow → Aggregate → List (List Value) → Type 0
HasGreatPartition w a rows = (row : List Value) × Contains rows row × IsGreatSum (filter (in_partition w row) rows) a
