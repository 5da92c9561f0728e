-- How a window walks its rows, each with its place among all.
use Rattle.std.specs.Prelude.{◌≡◌, ◌⊎◌, ℕ, ◌+◌, ◌&&◌, if◌then◌else◌, Bool, false, List, [], ◌∷◌, Option, Some, None, set}
use Rattle.std.specs.Ordering.{is_eq, ordering_then}
use Rattle.std.specs.declared.cmp.Ordering.{Ordering}
use Rattle.col_value.specs.Order.{IsRow, row_cmp}
use Rattle.col_value.specs.declared.value.Value.{Value}
use Rattle.col_value.specs.declared.wide.Wide.{Wide}
use Rattle.sql_tree.specs.declared.query.WindowKind.{WindowKind}
use Rattle.sql_bound.specs.declared.query.Aggregate.{Aggregate}
use Rattle.sql_bound.specs.declared.query.BoundWindow.{BoundWindow}
use Rattle.sql_bound.specs.Outputs.{in_partition, keys_of, number_cmp, window_cmp, window_over}
use Rattle.exec_group.specs.Accumulators.{accumulated, argument_in, taken, worth_or_null}
use Rattle.exec_group.specs.declared.accumulator.Accumulator.{Accumulator}
use Rattle.exec_group.specs.declared.accumulator.Accumulator.TheVariants.{TooGreat}
use Rattle.exec_window.specs.declared.tuples.Tuple.{Tuple}
use Rattle.exec_window.specs.declared.walk.At.{At}
use Rattle.exec_window.specs.declared.walk.Step.{Step}

abbrev pub pair_of : Tuple → ℕ × List Value
pair_of t = (t.place, t.row.now)

abbrev pub IsRowOf : Tuple → Type 0
IsRowOf t = IsRow t.row.now

-- by partition, and then by number
abbrev pub walk_cmp : BoundWindow → ℕ × List Value → ℕ × List Value → Ordering
walk_cmp w a b = ordering_then (row_cmp (keys_of w.partition a.1) (keys_of w.partition b.1)) (number_cmp w a b)

-- where a walk stands
pub record Seen : Type 0 where
  pub tuple : ℕ × List Value
  pub peer : Bool
  pub numbered : ℕ
  pub before : ℕ
  pub sum : Accumulator

abbrev pub seen_of : At → Seen
seen_of at = record { tuple = pair_of at.tuple; peer = at.peer; numbered = at.numbered; before = at.before; sum = at.sum }

-- a tuple is of the partition of the last one
abbrev pub joins : BoundWindow → Option Seen → ℕ × List Value → Bool
joins w None t = false
joins w (Some at) t = in_partition w t.1 at.tuple.1

-- and its peer
abbrev pub is_peer : BoundWindow → Option Seen → ℕ × List Value → Bool
is_peer w None t = false
is_peer w (Some at) t = in_partition w t.1 at.tuple.1 && is_eq (window_cmp w.order at.tuple.1 t.1)

abbrev pub number_at : BoundWindow → Option Seen → ℕ × List Value → ℕ
number_at w None t = 0
number_at w (Some at) t = if in_partition w t.1 at.tuple.1 then at.numbered + 1 else 0

abbrev pub before_at : BoundWindow → Option Seen → ℕ × List Value → ℕ
before_at w None t = 0
before_at w (Some at) t = if is_peer w (Some at) t then at.before else number_at w (Some at) t

abbrev pub fresh_of : Aggregate → Accumulator
fresh_of a = accumulated a.kind 0 []

abbrev pub sum_at : BoundWindow → Aggregate → Option Seen → ℕ × List Value → Accumulator
sum_at w a None t = fresh_of a
sum_at w a (Some at) t = if in_partition w t.1 at.tuple.1 then at.sum else fresh_of a

-- the walk at the next tuple
abbrev pub next_at : BoundWindow → Aggregate → Option Seen → ℕ × List Value → Seen
next_at w a o t = record { tuple = t; peer = is_peer w o t; numbered = number_at w o t; before = before_at w o t; sum = taken (sum_at w a o t) (argument_in a.arg t.1) }

abbrev pub step_of : Seen → Step
step_of s = record { place = s.tuple.0; peer = s.peer; numbered = s.numbered; before = s.before; frame = worth_or_null s.sum }

-- what it leaves of the tuples
abbrev pub steps : BoundWindow → Aggregate → Option Seen → List (ℕ × List Value) → List Step
steps w a o [] = []
steps w a o (t ∷ ts) = step_of (next_at w a o t) ∷ steps w a (Some (next_at w a o t)) ts

-- whether a sum is too great on the way
abbrev pub IsGreat : Seen → Type 0
IsGreat s = s.sum ≡ TooGreat

abbrev pub AllFit : BoundWindow → Aggregate → Option Seen → List (ℕ × List Value) → Type 0
AllFit w a o [] = Unit {0}
AllFit w a o (t ∷ ts) = (IsGreat (next_at w a o t) → ⊥) × AllFit w a (Some (next_at w a o t)) ts

abbrev pub SomeGreat : BoundWindow → Aggregate → Option Seen → List (ℕ × List Value) → Type 0
SomeGreat w a o [] = ⊥
SomeGreat w a o (t ∷ ts) = IsGreat (next_at w a o t) ⊎ SomeGreat w a (Some (next_at w a o t)) ts

-- peers share what the last of them has
abbrev pub frame_of : Step → Option Wide → Wide
frame_of s None = s.frame
frame_of s (Some frame) = frame

abbrev pub shared_of : Step → Wide → Option Wide
shared_of s frame = if s.peer then Some frame else None

abbrev pub shared : List Step → Option Wide
shared [] = None
shared (s ∷ ss) = shared_of s (frame_of s (shared ss))

abbrev pub value_of_step : WindowKind → Step → Wide → Wide
value_of_step kind s frame = window_over kind s.numbered s.before frame

-- the values are written where the rows stand
abbrev pub written : WindowKind → List Step → List Wide → List Wide
written kind [] out = out
written kind (s ∷ ss) out = set (written kind ss out) s.place (value_of_step kind s (frame_of s (shared ss)))
