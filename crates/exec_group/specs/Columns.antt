-- Rows that stand in columns.
use Rattle.std.specs.Prelude.{◌≡◌, ℕ, ℤ, ◌+◌, ◌-◌, ◌+ℤ◌, ◌≤◌, ◌++◌, List, [], ◌∷◌, fold, get_or, length, map, replicate, set, Option, Some, slice_index_or}
use Rattle.std.specs.List.{All}
use Rattle.std.specs.Option.{option_map_or}
use Rattle.col_value.specs.Order.{IsRow}
use Rattle.col_value.specs.declared.value.Value.{Value}
use Rattle.col_value.specs.declared.value.Value.TheVariants as value
use Rattle.sql_bound.specs.declared.expr.Expr.{Expr}
use Rattle.sql_bound.specs.declared.query.Aggregate.{Aggregate}
use Rattle.sql_bound.specs.Bounds.{magnitude, result_bound}
use Rattle.sql_bound.specs.Values.{of_row, value_of}
use Rattle.col_value.specs.declared.wide.Wide.{Wide}
use Rattle.exec_group.specs.Accumulators.{accumulated, argument_in, taken}
use Rattle.exec_group.specs.declared.accumulator.Accumulator.{Accumulator}
use Rattle.exec_group.specs.declared.accumulator.Accumulator.TheVariants as accumulator

-- the value of a column in a row, NULL where the column isn't there
abbrev pub cell : ℕ → Option (List Value) → Value
cell i column = option_map_or (λ vs. slice_index_or vs i value.Null) column value.Null

-- the row at a place
abbrev pub row_of : List (Option (List Value)) → ℕ → List Value
row_of columns i = map (cell i) columns

-- those at places are rows of values
abbrev pub AreRowsAt : List (Option (List Value)) → List ℕ → Type 0
AreRowsAt columns places = All (λ i. IsRow (row_of columns i)) places

-- an aggregate after the rows at places
abbrev pub taken_at : List (Option (List Value)) → Aggregate → List ℕ → Accumulator → Accumulator
taken_at columns a places x = fold (λ y i. taken y (argument_in a.arg (row_of columns i))) x places

-- a count of rows was raised by so many
abbrev pub IsRaised : ℕ → Accumulator → Accumulator → Type 0
IsRaised count old new = (n : ℕ) × (old ≡ accumulator.Rows n) × (new ≡ accumulator.Rows (n + count))

-- what is kept in the groups with more groups, in which nothing is kept yet
abbrev pub padded : ℕ → Accumulator → List Accumulator → List Accumulator
padded count x column = column ++ replicate (count - length column) x

-- after a value more in a group
abbrev pub put_at : List Accumulator → ℕ → Wide → List Accumulator
put_at column g w = set column g (taken (get_or column g accumulator.TooGreat) w)

-- after values of rows, each in its group
abbrev pub put_each : {X : Type 0} → (X → Wide) → List ℕ → List X → List Accumulator → List Accumulator
put_each f [] xs column = column
put_each f (g ∷ gs) [] column = column
put_each f (g ∷ gs) (x ∷ xs) column = put_each f gs xs (put_at column g (f x))

-- what each aggregate keeps after rows, each in one of so many groups
abbrev pub each_put : {X : Type 0} → (X → List Value) → ℕ → List ℕ → List X → List Aggregate → List (List Accumulator) → List (List Accumulator)
each_put row count gs xs [] columns = columns
each_put row count gs xs (a ∷ aggs) [] = []
each_put row count gs xs (a ∷ aggs) (c ∷ cs) = put_each (λ x. argument_in a.arg (row x)) gs xs (padded count (accumulated a.kind 0 []) c) ∷ each_put row count gs xs aggs cs

-- the sum of the numbers that an expression is worth in the rows at places, and their magnitudes added up: a total that takes these rows gains so much
pub record IsTotalOf (columns : List (Option (List Value))) (e : Expr) (places : List ℕ) (sum : ℤ) (size : ℕ) : Type 0 where
  pub fits : magnitude sum ≤ size
  pub taken : (t : ℤ × ℕ) → t.1 + size ≤ result_bound → fold (λ y i. taken y (value_of (of_row (row_of columns i)) e)) (accumulator.Sum (Some t)) places ≡ accumulator.Sum (Some (t.0 +ℤ sum, t.1 + size))

-- a sum gained a total, which a result holds then
abbrev pub HasGained : ℤ → ℕ → Accumulator → Accumulator → Type 0
HasGained sum size old new = (t : ℤ × ℕ) × (old ≡ accumulator.Sum (Some t)) × (new ≡ accumulator.Sum (Some (t.0 +ℤ sum, t.1 + size))) × (t.1 + size ≤ result_bound)
