-- Two numbers of a row, by which the order of a walk mostly tells it from another one.
use Rattle.std.specs.Prelude.{◌≡◌, ℕ, ◌+◌, ◌^◌, ◌-◌, ◌&&◌, ◌++◌, ℤ, pos, negsuc, ◌-ℤ◌, int_lt, min, not, if◌then◌else◌, Bool, true, false, List, [], ◌∷◌, map, slice_index_or}
use Rattle.std.specs.Ordering.{int_cmp, int_eq, ordering_then}
use Rattle.std.specs.declared.cmp.Ordering.{Ordering}
use Rattle.col_value.specs.declared.value.Value.{Value}
use Rattle.col_value.specs.declared.value.Value.TheVariants as value
use Rattle.sql_bound.specs.declared.query.BoundWindow.{BoundWindow}
use Rattle.exec_window.specs.declared.leads.Lead.{Lead}
use Rattle.exec_window.specs.declared.tuples.Tuple.{Tuple}
use Rattle.exec_window.specs.Walks.{pair_of, walk_cmp}

-- the nearest number from -2^62 to 2^62
abbrev pub within : ℤ → ℤ
within n = if int_lt n (negsuc (2 ^ 62 - 1)) then negsuc (2 ^ 62 - 1) else if int_lt (pos (2 ^ 62)) n then pos (2 ^ 62) else n

-- where a value's rank is less than that of another, so is the value
abbrev pub rank_of : Value → ℤ
rank_of value.Null = negsuc (2 ^ 62 + 2)
rank_of (value.Bool false) = negsuc (2 ^ 62 + 1)
rank_of (value.Bool true) = negsuc (2 ^ 62)
rank_of (value.Int n) = within n
rank_of (value.Date d) = pos ((2 ^ 62 + 1) + min d (2 ^ 32 - 1))
rank_of (value.Text t) = pos (2 ^ 63 - 1)

-- one value alone has this rank
abbrev pub is_exact : ℤ → Bool
is_exact r = not (int_eq r (negsuc (2 ^ 62 - 1))) && (not (int_eq r (pos (2 ^ 62))) && int_lt r (pos (2 ^ 62 + 2 ^ 32)))

-- DESC turns the ranks round
abbrev pub turned : ℤ → Bool → ℤ
turned r true = negsuc 0 -ℤ r
turned r false = r

-- the rank of a row's first key
abbrev pub first_lead : List (ℕ × Bool) → List Value → ℤ
first_lead [] row = pos 0
first_lead (k ∷ ks) row = turned (rank_of (slice_index_or row k.0 value.Null)) k.1

-- and that of its second, where the first one's rank tells what it is
abbrev pub second_lead : List (ℕ × Bool) → List Value → ℤ
second_lead [] row = pos 0
second_lead (k ∷ ks) row = if is_exact (rank_of (slice_index_or row k.0 value.Null)) then first_lead ks row else pos 0

abbrev pub lead_of : List (ℕ × Bool) → List Value → Lead
lead_of ks row = record { first = first_lead ks row; second = second_lead ks row }

-- the keys of a walk: the columns of the partition, and then those of the order, each with whether DESC stands behind it
abbrev pub walk_keys : BoundWindow → List (ℕ × Bool)
walk_keys w = map (λ c. (c, false)) w.partition ++ w.order

-- a tuple has its row's lead
abbrev pub IsLed : BoundWindow → Tuple → Type 0
IsLed w t = t.lead ≡ lead_of (walk_keys w) t.row.now

-- by the leads, and then as a walk does
abbrev pub led_cmp : BoundWindow → Tuple → Tuple → Ordering
led_cmp w a b = ordering_then (int_cmp a.lead.first b.lead.first) (ordering_then (int_cmp a.lead.second b.lead.second) (walk_cmp w (pair_of a) (pair_of b)))
