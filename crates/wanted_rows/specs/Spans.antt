-- Values that lie within spans, and the spans of rows.
use Rattle.std.specs.Prelude.{ℕ, ◌≡◌, ◌<◌, ◌&&◌, slice_index_or, Bool, true, List, IfSome}
use Rattle.std.specs.List.{All, slice_get}
use Rattle.std.specs.Ordering.{is_le}
use Rattle.col_value.specs.Order.{value_cmp}
use Rattle.col_value.specs.declared.row.Asked.{Asked}
use Rattle.col_value.specs.declared.value.Value.{Value}
use Rattle.col_value.specs.declared.value.Value.TheVariants.{Null}
use Rattle.wanted_rows.specs.declared.spans.Span.{Span}

-- from the least to the greatest
abbrev pub lies_in : Span → Value → Bool
lies_in s v = is_le (value_cmp s.least v) && is_le (value_cmp v s.greatest)

-- the row's value in a column, or NULL, lies in the span
abbrev pub LiesAt : ℕ → Span → Asked → Type 0
LiesAt column s a = lies_in s (slice_index_or a.row column Null) ≡ true

-- what the rows have in a column lies in the span
abbrev pub IsSpan : ℕ → List Asked → Span → Type 0
IsSpan column rows s = All (LiesAt column s) rows

abbrev pub AreSpans : List Asked → List Span → Type 0
AreSpans rows spans = (column : ℕ) → IfSome (slice_get spans column) (IsSpan column rows)

-- each row that is wanted lies within all spans
abbrev pub Covers : List Span → (Asked → ℕ) → Type 0
Covers spans need = (q : Asked) → 0 < need q → (column : ℕ) → IfSome (slice_get spans column) (λ s. LiesAt column s q)
