-- A sum over rows at places, taken at once.
use Rattle.std.proofs.Common.{◌≡◌, ℕ, ◌+◌, ◌<◌, ◌≤◌, ℤ, pos, negsuc, neg_ℤ, ◌+ℤ◌, ◌≤ℤ◌, nat_le, Bool, true, if◌then◌else◌, List, [], ◌∷◌, length, get_or, take, fold, Option, Some, unsigned_abs, refl, sym, ap, ap₂, ◌∙◌, arith, subst}
use Rattle.std.proofs.lemmas.Bool.Decides.{nat_tests}
use Rattle.std.proofs.lemmas.Int.{ints}
use Rattle.std.proofs.lemmas.List.{take_all, take_more}
use Rattle.std.proofs.lemmas.List.Sums.{fold-append}
use Rattle.col_value.specs.declared.wide.Wide.{Wide}
use Rattle.col_value.specs.declared.wide.Wide.TheVariants as wide
use Rattle.sql_bound.specs.declared.expr.Expr.{Expr}
use Rattle.sql_bound.specs.declared.query.Aggregate.{Aggregate}
use Rattle.sql_bound.specs.Bounds.{magnitude, result_bound}
use Rattle.sql_bound.specs.Values.{of_row, value_of}
use Rattle.exec_group.specs.Accumulators.{argument_in, taken}
use Rattle.exec_group.specs.Columns.{row_of, taken_at, HasGained, IsTotalOf}
use Rattle.exec_group.specs.declared.accumulator.Accumulator.{Accumulator}
use Rattle.exec_group.specs.declared.accumulator.Accumulator.TheVariants as accumulator
use Rattle.exec_group.proofs.Together.{Columns}

above : (z : ℤ) → z ≤ℤ pos (magnitude z)
above (pos n) = omega (arith, ints)
above (negsuc n) = omega (arith, ints)

below : (z : ℤ) → neg_ℤ (pos (magnitude z)) ≤ℤ z
below (pos n) = omega (arith, ints)
below (negsuc n) = omega (arith, ints)

between : (z : ℤ) (m : ℕ) → z ≤ℤ pos m → neg_ℤ (pos m) ≤ℤ z → magnitude z ≤ m
between (pos n) m p q = omega (arith, ints)
between (negsuc n) m p q = omega (arith, ints)

magnitude_sum : (a b : ℤ) → magnitude (a +ℤ b) ≤ magnitude a + magnitude b
magnitude_sum a b =
    between (a +ℤ b) (magnitude a + magnitude b) (omega (arith, ints, above a, above b)) (omega (arith, ints, below a, below b))

pub absolute : (z : ℤ) → magnitude z ≡ unsigned_abs z
absolute (pos n) = refl
absolute (negsuc n) = omega arith

-- a total and a sum keep to a result's numbers together
pub sum_fits : (a b : ℤ) (m n : ℕ) → magnitude a ≤ m → magnitude b ≤ n → magnitude (a +ℤ b) ≤ m + n
sum_fits a b m n h g = omega (arith, h, g, magnitude_sum a b)

-- a sum after rows
abbrev pub summed_over : Columns → Expr → Accumulator → List ℕ → Accumulator
summed_over columns e x places = fold (λ y i. taken y (value_of (of_row (row_of columns i)) e)) x places

no_number : (n : ℤ) → n +ℤ pos 0 ≡ n
no_number n = omega (arith, ints)

pub total_none : (columns : Columns) (e : Expr) → IsTotalOf columns e [] (pos 0) 0
total_none columns e = record {
  fits = omega arith;
  taken = λ t h.
      let size : t.1 ≡ t.1 + 0 = omega arith in
      ap₂ (λ (n : ℤ) (m : ℕ). accumulator.Sum (Some (n, m))) (sym (no_number t.0)) size;
}

-- a number more
one_taken : (t : ℤ × ℕ) (w : Wide) (n : ℤ) → w ≡ wide.Int n → t.1 + magnitude n ≤ result_bound → taken (accumulator.Sum (Some t)) w ≡ accumulator.Sum (Some (t.0 +ℤ n, t.1 + magnitude n))
one_taken t w n is h =
    let fits : nat_le (t.1 + magnitude n) result_bound ≡ true = grind (arith, nat_tests) in
    ap (taken (accumulator.Sum (Some t))) is ∙ ap (λ (b : Bool). if b then accumulator.Sum (Some (t.0 +ℤ n, t.1 + magnitude n)) else accumulator.TooGreat) fits

sum_assoc : (a b c : ℤ) → (a +ℤ b) +ℤ c ≡ a +ℤ (b +ℤ c)
sum_assoc a b c = omega (arith, ints)

pub total_more : (columns : Columns) (e : Expr) (places : List ℕ) (i : ℕ) (n sum more : ℤ) (size greater : ℕ) → i < length places → value_of (of_row (row_of columns (get_or places i 0))) e ≡ wide.Int n → more ≡ sum +ℤ n → greater ≡ size + unsigned_abs n
    → IsTotalOf columns e (take i places) sum size → IsTotalOf columns e (take (i + 1) places) more greater
total_more columns e places i n sum more size greater h is more_is greater_is before = record {
  fits = subst (λ (z : ℤ). magnitude z ≤ greater) (sym more_is) (omega (arith, wider, magnitude_sum sum n, before.fits));
  taken = λ t all.
      let room : t.1 + size + magnitude n ≤ result_bound = omega (arith, all, wider) in
      let some : t.1 + size ≤ result_bound = omega (arith, room) in
      let width : t.1 + size + magnitude n ≡ t.1 + greater = omega (arith, wider) in
      ap (summed_over columns e (accumulator.Sum (Some t))) (take_more places i 0 h)
      ∙ fold-append (λ y k. taken y (value_of (of_row (row_of columns k)) e)) (accumulator.Sum (Some t)) (take i places) (get_or places i 0 ∷ [])
      ∙ ap (λ (x : Accumulator). taken x (value_of (of_row (row_of columns (get_or places i 0))) e)) (before.taken t some)
      ∙ one_taken (t.0 +ℤ sum, t.1 + size) (value_of (of_row (row_of columns (get_or places i 0))) e) n is room
      ∙ ap₂ (λ (z : ℤ) (m : ℕ). accumulator.Sum (Some (z, m))) (sum_assoc t.0 sum n ∙ ap (λ (z : ℤ). t.0 +ℤ z) (sym more_is)) width;
}
  where
    wider : greater ≡ size + magnitude n
    wider = greater_is ∙ ap (λ (k : ℕ). size + k) (sym (absolute n))

pub total_all : (columns : Columns) (e : Expr) (places : List ℕ) (i : ℕ) (sum : ℤ) (size : ℕ) → length places ≤ i → IsTotalOf columns e (take i places) sum size → IsTotalOf columns e places sum size
total_all columns e places i sum size past total = subst (λ (ps : List ℕ). IsTotalOf columns e ps sum size) (take_all i places past) total

-- an aggregate of an expression takes the rows
pub total_taken : (columns : Columns) (a : Aggregate) (e : Expr) (places : List ℕ) (sum : ℤ) (size : ℕ) (old new : Accumulator) → a.arg ≡ Some e → IsTotalOf columns e places sum size → HasGained sum size old new → new ≡ taken_at columns a places old
total_taken columns a e places sum size old new arg total (t, was, is, room) =
    is ∙ sym (total.taken t room) ∙ ap (λ (x : Accumulator). summed_over columns e x places) (sym was) ∙ ap (λ (o : Option Expr). fold (λ y i. taken y (argument_in o (row_of columns i))) old places) (sym arg)
