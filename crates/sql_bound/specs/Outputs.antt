-- The output rows of a query, in some order.
use Rattle.std.specs.Prelude.{◌≡◌, ℕ, ℤ, pos, ◌+◌, ◌+ℤ◌, ◌<◌, ◌++◌, ◌&&◌, ◌⊎◌, not, if◌then◌else◌, Bool, true, false, List, [], ◌∷◌, length, map, filter, fold, zip, count_by, Option, Some, None}
use Rattle.std.specs.List.{Contains, list_all, flat_map, enumerate_from, slice_index_or}
use Rattle.std.specs.Option.{option_map_or}
use Rattle.std.specs.declared.cmp.Ordering.{Ordering}
use Rattle.std.specs.Ordering.{is_eq, is_le, is_lt, nat_cmp, on, ordering_reverse, then_cmp}
use Rattle.col_value.specs.declared.value.Value.{Value}
use Rattle.col_value.specs.declared.value.Value.TheVariants as value
use Rattle.col_value.specs.declared.wide.Wide.{Wide}
use Rattle.col_value.specs.declared.wide.Wide.TheVariants as wide
use Rattle.col_value.specs.Order.{row_cmp, value_cmp, wide_cmp}
use Rattle.sql_tree.specs.declared.tree.AggKind.{AggKind}
use Rattle.sql_tree.specs.declared.query.WindowKind.{WindowKind}
use Rattle.sql_bound.specs.declared.expr.Expr.{Expr}
use Rattle.sql_bound.specs.declared.query.Aggregate.{Aggregate}
use Rattle.sql_bound.specs.declared.query.BoundQuery.{BoundQuery}
use Rattle.sql_bound.specs.declared.query.BoundWindow.{BoundWindow}
use Rattle.sql_bound.specs.Used.{blanked, is_used}
use Rattle.sql_bound.specs.Values.{Scope, of_row, value_of, is_true, is_null}
use Rattle.sql_bound.specs.Bounds.{magnitude, result_bound}

-- the product of the FROM items: each choice of one row of each, joined to one row
abbrev pub tuples : List (List (List Value)) → List (List Value)
tuples [] = [] ∷ []
tuples (rows ∷ more) = flat_map (λ row. map (λ rest. row ++ rest) (tuples more)) rows

-- a tuple on which each condition of ON and WHERE is true
abbrev pub is_kept : List Expr → List Value → Bool
is_kept keep row = list_all (λ e. is_true (value_of (of_row row) e)) keep

abbrev pub kept : BoundQuery → List (List (List Value)) → List (List Value)
kept q inputs = filter (is_kept q.keep) (tuples inputs)

-- the GROUP BY columns of a tuple
abbrev pub keys_of : List ℕ → List Value → List Value
keys_of keys row = map (λ k. slice_index_or row k value.Null) keys

abbrev pub same_keys : List Value → List Value → Bool
same_keys a b = is_eq (row_cmp a b)

-- each list of keys once
abbrev pub distinct : List (List Value) → List (List Value)
distinct [] = []
distinct (k ∷ ks) = k ∷ filter (λ other. not (same_keys k other)) (distinct ks)

-- the keys of the groups: where there is no GROUP BY one group, also over no rows
abbrev pub group_keys : List ℕ → List (List Value) → List (List Value)
group_keys [] rows = [] ∷ []
group_keys (k ∷ ks) rows = distinct (map (keys_of (k ∷ ks)) rows)

-- the tuples of a group; NULLs of a GROUP BY column stand together
abbrev pub members : List ℕ → List Value → List (List Value) → List (List Value)
members keys group rows = filter (λ row. same_keys group (keys_of keys row)) rows

-- the values of an aggregate's argument over some tuples, those that are not NULL
abbrev pub values_over : Option Expr → List (List Value) → List Wide
values_over None rows = []
values_over (Some e) rows = filter (λ w. not (is_null w)) (map (λ row. value_of (of_row row) e) rows)

abbrev pub number_or_zero : Wide → ℤ
number_or_zero wide.Null = pos 0
number_or_zero (wide.Bool b) = pos 0
number_or_zero (wide.Int n) = n
number_or_zero (wide.Date d) = pos 0
number_or_zero (wide.Text t) = pos 0

-- plain sums, and least and greatest values; over no value they are NULL
abbrev pub plain_sum : List Wide → ℤ
plain_sum ws = fold (λ n w. n +ℤ number_or_zero w) (pos 0) ws

abbrev pub lesser : Wide → Wide → Wide
lesser a b = if is_lt (wide_cmp b a) then b else a

abbrev pub greater : Wide → Wide → Wide
greater a b = if is_lt (wide_cmp a b) then b else a

abbrev pub sum_value : List Wide → Wide
sum_value [] = wide.Null
sum_value (w ∷ ws) = wide.Int (plain_sum (w ∷ ws))

abbrev pub least_value : List Wide → Wide
least_value [] = wide.Null
least_value (w ∷ ws) = fold lesser w ws

abbrev pub greatest_value : List Wide → Wide
greatest_value [] = wide.Null
greatest_value (w ∷ ws) = fold greater w ws

-- an aggregate over so many tuples, with these values of its argument
abbrev pub aggregated : AggKind → ℕ → List Wide → Wide
aggregated AggKind.CountAll rows ws = wide.Int (pos rows)
aggregated AggKind.Count rows ws = wide.Int (pos (length ws))
aggregated AggKind.Sum rows ws = sum_value ws
aggregated AggKind.Min rows ws = least_value ws
aggregated AggKind.Max rows ws = greatest_value ws

abbrev pub aggregate_over : List (List Value) → Aggregate → Wide
aggregate_over rows a = aggregated a.kind (length rows) (values_over a.arg rows)

-- a group as its expressions see it
abbrev pub group_scope : BoundQuery → List (List Value) → List Value → Scope
group_scope q rows group = record { row = []; keys = group; aggs = map (aggregate_over (members q.keys group rows)) q.aggs }

-- the groups on which HAVING is true
abbrev pub group_scopes : BoundQuery → List (List Value) → List Scope
group_scopes q rows = filter (λ s. option_map_or (λ e. is_true (value_of s e)) q.having true) (map (group_scope q rows) (group_keys q.keys rows))

-- ---- windows

-- by one key of a window's ORDER BY, NULL least; DESC turns it round
abbrev pub window_key_cmp : ℕ × Bool → List Value → List Value → Ordering
window_key_cmp key a b =
    if key.1 then ordering_reverse (value_cmp (slice_index_or a key.0 value.Null) (slice_index_or b key.0 value.Null))
    else value_cmp (slice_index_or a key.0 value.Null) (slice_index_or b key.0 value.Null)

-- by all of them; without one all tuples are peers
abbrev pub window_cmp : List (ℕ × Bool) → List Value → List Value → Ordering
window_cmp [] a b = Ordering.Equal
window_cmp (key ∷ keys) a b = then_cmp (window_key_cmp key) (window_cmp keys) a b

-- the tuples of a partition have equal partition columns, NULLs together
abbrev pub in_partition : BoundWindow → List Value → List Value → Bool
in_partition w row other = same_keys (keys_of w.partition row) (keys_of w.partition other)

-- a tuple of the partition that stands before this one
abbrev pub stands_before : BoundWindow → List Value → List Value → Bool
stands_before w row other = in_partition w row other && is_lt (window_cmp w.order other row)

-- a tuple of the partition that stands before this one or is its peer
abbrev pub in_frame : BoundWindow → List Value → List Value → Bool
in_frame w row other = in_partition w row other && is_le (window_cmp w.order other row)

-- tuples with their places in the list: by the keys, peers by all their columns, and alike peers by their places
abbrev pub number_cmp : BoundWindow → ℕ × List Value → ℕ × List Value → Ordering
number_cmp w = then_cmp (on (λ t. t.1) (window_cmp w.order)) (then_cmp (on (λ t. t.1) row_cmp) (on (λ t. t.0) nat_cmp))

abbrev pub is_numbered_before : BoundWindow → ℕ × List Value → ℕ × List Value → Bool
is_numbered_before w t other = in_partition w t.1 other.1 && is_lt (number_cmp w other t)

-- a window on a tuple: behind so many that are numbered before it, behind so many that stand before it, and over these, its frame
abbrev pub window_over : WindowKind → ℕ → ℕ → Wide → Wide
window_over WindowKind.RowNumber numbered before frame = wide.Int (pos (numbered + 1))
window_over WindowKind.Rank numbered before frame = wide.Int (pos (before + 1))
window_over WindowKind.CountAll numbered before frame = frame
window_over WindowKind.Count numbered before frame = frame
window_over WindowKind.Sum numbered before frame = frame

-- the value of a window on a tuple, which has a place in the list of all tuples; over its frame it is this aggregate
abbrev pub window_value : List (List Value) → ℕ × List Value → BoundWindow × Aggregate → Wide
window_value rows t p =
    window_over p.0.kind (count_by (is_numbered_before p.0 t) (enumerate_from 0 rows)) (count_by (stands_before p.0 t.1) rows)
    (aggregate_over (filter (in_frame p.0 t.1) rows) p.1)

-- the tuples as windows see them: NULL stands in the columns that the query doesn't use
abbrev pub seen_rows : BoundQuery → List (List Value) → List (List Value)
seen_rows q rows = map (blanked (is_used q) 0) rows

-- such a tuple beside the values of the windows
abbrev pub window_scope : BoundQuery → List (List Value) → ℕ × List Value → Scope
window_scope q rows t = record { row = t.1; keys = []; aggs = map (window_value rows t) (zip q.windows q.aggs) }

abbrev pub window_scopes : BoundQuery → List (List Value) → List Scope
window_scopes q rows = map (window_scope q rows) (enumerate_from 0 rows)

-- the tuples as the items see them
abbrev pub tuple_scopes : List BoundWindow → BoundQuery → List (List Value) → List Scope
tuple_scopes [] q rows = map of_row rows
tuple_scopes (w ∷ windows) q rows = window_scopes q (seen_rows q rows)

abbrev pub scopes : BoundQuery → List (List Value) → List Scope
scopes q rows = if q.grouped then group_scopes q rows else tuple_scopes q.windows q rows

-- the output rows: the items' values in each tuple, or in each group that is kept
abbrev pub output : BoundQuery → List (List (List Value)) → List (List Wide)
output q inputs = map (λ s. map (value_of s) q.items) (scopes q (kept q inputs))

-- the magnitudes of some values added up
abbrev pub size_of : List Wide → ℕ
size_of ws = fold (λ n w. n + magnitude (number_or_zero w)) 0 ws

-- in a group of these tuples a SUM goes over values whose magnitudes add to more than 2^127 - 1
abbrev pub IsGreatSum : List (List Value) → Aggregate → Type 0
IsGreatSum rows a = (a.kind ≡ AggKind.Sum) × (result_bound < size_of (values_over a.arg rows))

-- it is so in some group, before HAVING
abbrev pub HasGreatGroup : BoundQuery → List (List Value) → Type 0
HasGreatGroup q rows =
    (q.grouped ≡ true) × (group : List Value) × (a : Aggregate) × Contains (group_keys q.keys rows) group × Contains q.aggs a × IsGreatSum (members q.keys group rows) a

-- or in some tuple's partition of a window
abbrev pub HasGreatPartition : BoundQuery → List (List Value) → Type 0
HasGreatPartition q rows =
    (q.grouped ≡ false) × (p : BoundWindow × Aggregate) × (row : List Value) × Contains (zip q.windows q.aggs) p × Contains (seen_rows q rows) row
    × IsGreatSum (filter (in_partition p.0 row) (seen_rows q rows)) p.1

abbrev pub HasGreatSum : BoundQuery → List (List Value) → Type 0
HasGreatSum q rows = HasGreatGroup q rows ⊎ HasGreatPartition q rows

abbrev pub IsSumTooGreat : BoundQuery → List (List (List Value)) → Type 0
IsSumTooGreat q inputs = HasGreatSum q (kept q inputs)
