-- What an aggregate keeps of the values that it took.
use Rattle.std.specs.Prelude.{ℕ, ℤ, pos, ◌+◌, ◌+ℤ◌, if◌then◌else◌, nat_le, Bool, true, List, [], ◌∷◌, length, fold, map, Option, Some, None}
use Rattle.std.specs.Option.{option_map_or}
use Rattle.col_value.specs.declared.value.Value.{Value}
use Rattle.col_value.specs.declared.wide.Wide.{Wide}
use Rattle.col_value.specs.declared.wide.Wide.TheVariants as wide
use Rattle.sql_tree.specs.declared.tree.AggKind.{AggKind}
use Rattle.sql_bound.specs.declared.expr.Expr.{Expr}
use Rattle.sql_bound.specs.declared.query.Aggregate.{Aggregate}
use Rattle.sql_bound.specs.Bounds.{is_narrow, magnitude, result_bound}
use Rattle.sql_bound.specs.Outputs.{greater, lesser, number_or_zero, plain_sum, size_of, values_over}
use Rattle.sql_bound.specs.Values.{is_null, of_row, value_of}
use Rattle.exec_group.specs.declared.accumulator.Accumulator.{Accumulator}
use Rattle.exec_group.specs.declared.accumulator.Accumulator.TheVariants as accumulator

-- a sum of some values with their magnitudes added up, and their least and greatest value; none where there is no value
abbrev pub total_of : List Wide → Option (ℤ × ℕ)
total_of [] = None
total_of (w ∷ ws) = Some (plain_sum (w ∷ ws), size_of (w ∷ ws))

abbrev pub least_of : List Wide → Option Wide
least_of [] = None
least_of (w ∷ ws) = Some (fold lesser w ws)

abbrev pub greatest_of : List Wide → Option Wide
greatest_of [] = None
greatest_of (w ∷ ws) = Some (fold greater w ws)

-- an aggregate over so many rows, in which its argument has these values that are not NULL
abbrev pub accumulated : AggKind → ℕ → List Wide → Accumulator
accumulated AggKind.CountAll rows ws = accumulator.Rows rows
accumulated AggKind.Count rows ws = accumulator.Values (length ws)
accumulated AggKind.Sum rows ws = if nat_le (size_of ws) result_bound then accumulator.Sum (total_of ws) else accumulator.TooGreat
accumulated AggKind.Min rows ws = accumulator.Least (least_of ws)
accumulated AggKind.Max rows ws = accumulator.Greatest (greatest_of ws)

-- an aggregate over some rows
abbrev pub accumulated_over : List (List Value) → Aggregate → Accumulator
accumulated_over rows a = accumulated a.kind (length rows) (values_over a.arg rows)

-- the value of an aggregate's argument in a row; NULL where it has none
abbrev pub argument_in : Option Expr → List Value → Wide
argument_in None row = wide.Null
argument_in (Some e) row = value_of (of_row row) e

-- a total with a number more
abbrev pub added_to : ℤ × ℕ → ℤ → Accumulator
added_to t n = if nat_le (t.1 + magnitude n) result_bound then accumulator.Sum (Some (t.0 +ℤ n, t.1 + magnitude n)) else accumulator.TooGreat

abbrev pub added : Option (ℤ × ℕ) → ℤ → Accumulator
added None n = added_to (pos 0, 0) n
added (Some t) n = added_to t n

abbrev pub least_with : Option Wide → Wide → Wide
least_with None w = w
least_with (Some v) w = lesser v w

abbrev pub greatest_with : Option Wide → Wide → Wide
greatest_with None w = w
greatest_with (Some v) w = greater v w

-- an aggregate after a value more that is not NULL
abbrev pub counted : Accumulator → Wide → Accumulator
counted (accumulator.Rows n) w = accumulator.Rows (n + 1)
counted (accumulator.Values n) w = accumulator.Values (n + 1)
counted (accumulator.Sum t) w = added t (number_or_zero w)
counted accumulator.TooGreat w = accumulator.TooGreat
counted (accumulator.Least v) w = accumulator.Least (Some (least_with v w))
counted (accumulator.Greatest v) w = accumulator.Greatest (Some (greatest_with v w))

-- an aggregate after a NULL
abbrev pub passed : Accumulator → Accumulator
passed (accumulator.Rows n) = accumulator.Rows (n + 1)
passed (accumulator.Values n) = accumulator.Values n
passed (accumulator.Sum t) = accumulator.Sum t
passed accumulator.TooGreat = accumulator.TooGreat
passed (accumulator.Least v) = accumulator.Least v
passed (accumulator.Greatest v) = accumulator.Greatest v

abbrev pub taken : Accumulator → Wide → Accumulator
taken a w = if is_null w then passed a else counted a w

-- a number, or NULL where there is no value
abbrev pub or_null : Option Wide → Wide
or_null None = wide.Null
or_null (Some w) = w

abbrev pub sum_or_null : Option (ℤ × ℕ) → Wide
sum_or_null None = wide.Null
sum_or_null (Some t) = wide.Int t.0

-- the aggregate's value where no sum is too great
abbrev pub worth_or_null : Accumulator → Wide
worth_or_null (accumulator.Rows n) = wide.Int (pos n)
worth_or_null (accumulator.Values n) = wide.Int (pos n)
worth_or_null (accumulator.Sum t) = sum_or_null t
worth_or_null accumulator.TooGreat = wide.Null
worth_or_null (accumulator.Least v) = or_null v
worth_or_null (accumulator.Greatest v) = or_null v

-- an aggregate whose argument has static bounds
abbrev pub is_bounded_aggregate : Aggregate → Bool
is_bounded_aggregate a = option_map_or (is_narrow []) a.arg true
