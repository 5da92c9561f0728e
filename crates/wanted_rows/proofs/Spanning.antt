-- Values within spans.
use Rattle.std.proofs.Common.{◌≡◌, ◌+◌, ◌<◌, ◌≤◌, ◌&&◌, cond, true≢false, ℕ, suc, zero, Bool, true, false, List, [], ◌∷◌, ◌++◌, length, get_or, take, refl, sym, ap, ap₂, ◌∙◌, subst, arith}
use Rattle.std.specs.Prelude.{IfSome, Option, Some, None, slice_index_or}
use Rattle.std.specs.List.{All, slice_get}
use Rattle.std.specs.Ordering.{is_le, ordering_reverse}
use Rattle.std.specs.declared.cmp.Ordering.{Ordering}
use Rattle.std.specs.declared.cmp.Ordering.TheVariants.{Less, Equal, Greater}
use Rattle.std.proofs.lemmas.Cmp.{tied_itself}
use Rattle.std.proofs.lemmas.List.{take_all, take_more}
use Rattle.std.proofs.lemmas.List.Elements.{All-append, All-cons, All-nil, All-head, All-tail}
use Rattle.std.proofs.lemmas.Option.{slice_get-get_or}
use Rattle.common_laws.proofs.BagLaws.{count_cons}
use Rattle.col_value.specs.Laws.{value_exact, value_total}
use Rattle.col_value.specs.Order.{value_cmp}
use Rattle.col_value.specs.declared.row.Asked.{Asked}
use Rattle.col_value.specs.declared.value.Value.{Value}
use Rattle.col_value.specs.declared.value.Value.TheVariants.{Null}
use Rattle.wanted_rows.specs.declared.spans.Span.{Span}
use Rattle.wanted_rows.specs.Spans.{AreSpans, Covers, IsSpan, LiesAt, lies_in}
use Rattle.wanted_rows.specs.Wanted.{is_same, one_of, tally}
use Rattle.wanted_rows.proofs.Counting.{same_exact}

less_le : (o : Ordering) → o ≡ Less → is_le o ≡ true
less_le o e = ap is_le e

pub le_itself : (v : Value) → is_le (value_cmp v v) ≡ true
le_itself v = ap is_le (tied_itself value_total v)

pub le_both : (a b c : Value) → is_le (value_cmp a b) ≡ true → is_le (value_cmp b c) ≡ true → is_le (value_cmp a c) ≡ true
le_both a b c ab bc = by (value_cmp a b) (value_cmp b c) refl refl ab bc
  where
    by : (o p : Ordering) → value_cmp a b ≡ o → value_cmp b c ≡ p → is_le o ≡ true → is_le p ≡ true → is_le (value_cmp a c) ≡ true
    by Greater p e f x y = absurd (cc)
    by o Greater e f x y = absurd (cc)
    by Equal p e f x y = subst (λ (v : Value). is_le (value_cmp v c) ≡ true) (sym (value_exact a b e)) bc
    by Less Equal e f x y = subst (λ (v : Value). is_le (value_cmp a v) ≡ true) (value_exact b c f) ab
    by Less Less e f x y = less_le (value_cmp a c) (value_total.trans a b c e f)

both_true : (a b : Bool) → (a && b) ≡ true → (a ≡ true) × (b ≡ true)
both_true true b e = (refl, e)
both_true false b e = absurd (cc)

and_true : (a b : Bool) → a ≡ true → b ≡ true → (a && b) ≡ true
and_true a b e f = cc

-- of two values one is up to the other
pub le_other : (a b : Value) → is_le (value_cmp a b) ≡ false → is_le (value_cmp b a) ≡ true
le_other a b e = ap is_le (value_total.antisymm b a) ∙ reversed (value_cmp a b) e
  where
    reversed : (o : Ordering) → is_le o ≡ false → is_le (ordering_reverse o) ≡ true
    reversed Less e = cc
    reversed Equal e = refl
    reversed Greater e = refl

-- a value between two lies in no span that they miss
pub misses_between : (s : Span) (least greatest v : Value) → (is_le (value_cmp s.least greatest) && is_le (value_cmp least s.greatest)) ≡ false
    → is_le (value_cmp least v) ≡ true → is_le (value_cmp v greatest) ≡ true → lies_in s v ≡ false
misses_between s least greatest v none from upto = by (lies_in s v) refl
  where
    by : (b : Bool) → lies_in s v ≡ b → b ≡ false
    by false e = refl
    by true e =
        let in_it = both_true (is_le (value_cmp s.least v)) (is_le (value_cmp v s.greatest)) e in
        sym (and_true (is_le (value_cmp s.least greatest)) (is_le (value_cmp least s.greatest)) (le_both s.least v greatest in_it.0 upto) (le_both least v s.greatest from in_it.1)) ∙ none

-- a wider span has all that lies in the narrower one
wider : (s t : Span) (v : Value) → is_le (value_cmp t.least s.least) ≡ true → is_le (value_cmp s.greatest t.greatest) ≡ true → lies_in s v ≡ true → lies_in t v ≡ true
wider s t v low high in_s =
    let in_it = both_true (is_le (value_cmp s.least v)) (is_le (value_cmp v s.greatest)) in_s in
    and_true (is_le (value_cmp t.least v)) (is_le (value_cmp v t.greatest)) (le_both t.least s.least v low in_it.0) (le_both v s.greatest t.greatest in_it.1 high)

all_wider : (column : ℕ) (rows : List Asked) (s t : Span) → is_le (value_cmp t.least s.least) ≡ true → is_le (value_cmp s.greatest t.greatest) ≡ true → IsSpan column rows s → IsSpan column rows t
all_wider column rows s t low high all i d lt = wider s t (slice_index_or (get_or rows i d).row column Null) low high (all i d lt)

-- a row more
pub span_more : (column : ℕ) (rows : List Asked) (i : ℕ) (row : Asked) (v : Value) (s t : Span) → IsSpan column (take i rows) s → i < length rows → row ≡ get_or rows i row → v ≡ slice_index_or row.row column Null
    → (is_le (value_cmp t.least s.least) ≡ true) × (is_le (value_cmp t.least v) ≡ true) → (is_le (value_cmp s.greatest t.greatest) ≡ true) × (is_le (value_cmp v t.greatest) ≡ true) → IsSpan column (take (i + 1) rows) t
span_more column rows i row v s t was lt is v_is low high =
    let here : LiesAt column t row = subst (λ (w : Value). lies_in t w ≡ true) v_is (and_true (is_le (value_cmp t.least v)) (is_le (value_cmp v t.greatest)) low.1 high.1) in
    subst (λ (xs : List Asked). IsSpan column xs t) (sym (take_more rows i row lt))
    (All-append (LiesAt column t) (take i rows) (get_or rows i row ∷ []) (all_wider column (take i rows) s t low.0 high.0 was)
    (All-cons (LiesAt column t) (get_or rows i row) [] (subst (LiesAt column t) is here) (All-nil (LiesAt column t))))

-- all rows
pub span_all : (column : ℕ) (rows : List Asked) (i : ℕ) (s t : Span) → IsSpan column (take i rows) s → length rows ≤ i → t.least ≡ s.least → t.greatest ≡ s.greatest → IsSpan column rows t
span_all column rows i s t was past low high =
    let make : Value → Value → Span = λ least greatest. record { least = least; greatest = greatest } in
    subst (IsSpan column rows) (ap₂ make (sym low) (sym high)) (subst (λ (xs : List Asked). IsSpan column xs s) (take_all i rows past) was)

-- a column more
pushed : (P : ℕ → Span → Type 0) (spans : List Span) (s : Span) → ((k : ℕ) → IfSome (slice_get spans k) (P k)) → P (length spans) s → (i : ℕ) → IfSome (slice_get (spans ++ s ∷ []) i) (P i)
pushed P [] s was is zero = is
pushed P [] s was is (suc i) = tt
pushed P (x ∷ spans) s was is zero = was 0
pushed P (x ∷ spans) s was is (suc i) = pushed (λ k. P (suc k)) spans s (λ k. was (suc k)) is i

pub spans_more : (rows : List Asked) (spans : List Span) (s : Span) (column : ℕ) → column ≡ length spans → AreSpans rows spans → IsSpan column rows s → AreSpans rows (spans ++ s ∷ [])
spans_more rows spans s column long was is = pushed (λ k x. IsSpan k rows x) spans s was (subst (λ (n : ℕ). IsSpan n rows s) long is)

-- what is wanted among rows lies within their spans
stands : (P : Asked → Type 0) (rows : List Asked) (q : Asked) → All P rows → 0 < tally q rows → P q
stands P [] q all more = absurd (omega (arith, more))
stands P (a ∷ rows) q all more = by (is_same a q) refl (stands P rows q (All-tail P a rows all))
  where
    by : (b : Bool) → is_same a q ≡ b → (0 < tally q rows → P q) → P q
    by true e rest = subst P (same_exact a q e) (All-head P a rows all)
    by false e rest = rest (let none : one_of a q ≡ 0 = ap (λ (b : Bool). cond b 1 0) e in omega (arith, more, none, count_cons (λ x. is_same x q) a rows))

pub spans_cover : (rows : List Asked) (spans : List Span) → AreSpans rows spans → Covers spans (λ q. tally q rows)
spans_cover rows spans are q more column = by (slice_get spans column) (are column)
  where
    by : (o : Option Span) → IfSome o (IsSpan column rows) → IfSome o (λ s. LiesAt column s q)
    by None h = tt
    by (Some s) h = stands (LiesAt column s) rows q h more

-- what lies outside of a span isn't wanted
pub not_wanted : (spans : List Span) (need : Asked → ℕ) (column : ℕ) (s : Span) (q : Asked) → Covers spans need → (column < length spans) × (s ≡ get_or spans column s) → lies_in s (slice_index_or q.row column Null) ≡ false
    → need q ≡ 0
not_wanted spans need column s q covers (lt, is) out = by (need q) refl
  where
    by : (n : ℕ) → need q ≡ n → n ≡ 0
    by zero e = refl
    by (suc n) e =
        let there : slice_get spans column ≡ Some s = slice_get-get_or spans column s lt ∙ ap Some (sym is) in
        let in_it : lies_in s (slice_index_or q.row column Null) ≡ true = subst (λ (o : Option Span). IfSome o (λ t. LiesAt column t q)) there (covers q (omega (arith, e)) column) in
        absurd (true≢false (sym in_it ∙ out))
