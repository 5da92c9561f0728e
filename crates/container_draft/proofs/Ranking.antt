-- Where ranks differ they stand as the values do; and an exact rank tells the value.
use Rattle.std.proofs.Common.{◌≡◌, ℕ, zero, suc, ◌+◌, ◌*◌, ◌^◌, ◌-◌, ◌%◌, ◌<◌, min, Bool, true, false, cond, List, [], ◌∷◌, ℤ, pos, ◌≤ℤ◌, ◌<ℤ◌, refl, sym, ap, ap₂, subst, ◌∙◌, arith}
use Rattle.std.specs.Prelude.{int_lt, nat_lt, ◌&&◌, ◌==◌}
use Rattle.std.specs.Ordering.{int_cmp, nat_cmp, ordering_then, MatchOrdering}
use Rattle.std.specs.Cmp.{ranks}
use Rattle.std.specs.Cmp.Lexicographic.{slice_cmp}
use Rattle.std.specs.declared.cmp.Ordering.{Ordering}
use Rattle.std.specs.declared.cmp.Ordering.TheVariants.{Less, Equal, Greater}
use Rattle.std.proofs.lemmas.Bool.Decides.{nat_tests}
use Rattle.std.proofs.lemmas.Int.{ints}
use Rattle.col_value.specs.Order.{value_cmp}
use Rattle.col_value.specs.declared.value.Value.{Value}
use Rattle.col_value.specs.declared.value.Value.TheVariants as value
use Rattle.container_draft.specs.Ranks.{after, digit, head_from, head, is_exact, low, rank_of, within}

-- ---- texts

less_n : (a b : ℕ) → a < b → nat_cmp a b ≡ Less
less_n a b h = grind (arith, nat_tests)

digit_few : (t : List ℕ) → digit t < 256
digit_few [] = omega arith
digit_few (b ∷ bs) = by (nat_lt b 254) refl
  where
    by : (p : Bool) → nat_lt b 254 ≡ p → cond p (1 + b) 255 < 256
    by true e = let lt : b < 254 = grind (arith, nat_tests) in omega (arith, lt)
    by false e = omega arith

-- more before the digits is more
more_before : (n a b : ℕ) (s t : List ℕ) → a < b → head_from n a s < head_from n b t
more_before zero a b s t h = h
more_before (suc n) a b s t h = let few = digit_few s in more_before n (a * 256 + digit s) (b * 256 + digit t) (after s) (after t) (omega (arith, h, few))

cons_less : (x y : ℕ) (s t : List ℕ) → x < y → slice_cmp nat_cmp (x ∷ s) (y ∷ t) ≡ Less
cons_less x y s t h = ap (λ (o : Ordering). ordering_then o (slice_cmp nat_cmp s t)) (less_n x y h)

cons_same : (x y : ℕ) (s t : List ℕ) → x ≡ y → slice_cmp nat_cmp s t ≡ Less → slice_cmp nat_cmp (x ∷ s) (y ∷ t) ≡ Less
cons_same x y s t e h = let tie : nat_cmp x y ≡ Equal = grind (arith, nat_tests) in ap (λ (o : Ordering). ordering_then o (slice_cmp nat_cmp s t)) tie ∙ h

digit_less : (s t : List ℕ) → digit s < digit t → slice_cmp nat_cmp s t ≡ Less
digit_less [] [] h = absurd (omega (arith, h))
digit_less [] (y ∷ t) h = refl
digit_less (x ∷ s) [] h = absurd (omega (arith, h))
digit_less (x ∷ s) (y ∷ t) h = by (nat_lt x 254) (nat_lt y 254) refl refl h
  where
    by : (p q : Bool) → nat_lt x 254 ≡ p → nat_lt y 254 ≡ q → cond p (1 + x) 255 < cond q (1 + y) 255 → slice_cmp nat_cmp (x ∷ s) (y ∷ t) ≡ Less
    by true true e f k = cons_less x y s t (omega (arith, k))
    by true false e f k = let lt : x < y = grind (arith, nat_tests) in cons_less x y s t lt
    by false true e f k = let lt : y < 254 = grind (arith, nat_tests) in absurd (omega (arith, k, lt))
    by false false e f k = absurd (omega (arith, k))

after_less : (s t : List ℕ) → digit s ≡ digit t → slice_cmp nat_cmp (after s) (after t) ≡ Less → slice_cmp nat_cmp s t ≡ Less
after_less [] [] e h = h
after_less [] (y ∷ t) e h = refl
after_less (x ∷ s) [] e h = absurd (by (nat_lt x 254) e)
  where
    by : (p : Bool) → cond p (1 + x) 255 ≡ 0 → ⊥
    by true e = omega (arith, e)
    by false e = omega (arith, e)
after_less (x ∷ s) (y ∷ t) e h = by (nat_lt x 254) (nat_lt y 254) refl refl e h
  where
    by : (p q : Bool) → nat_lt x 254 ≡ p → nat_lt y 254 ≡ q → cond p (1 + x) 255 ≡ cond q (1 + y) 255
        → slice_cmp nat_cmp (cond p s (x ∷ s)) (cond q t (y ∷ t)) ≡ Less → slice_cmp nat_cmp (x ∷ s) (y ∷ t) ≡ Less
    by true true e f k h = cons_same x y s t (omega (arith, k)) h
    by true false e f k h = let lt : x < 254 = grind (arith, nat_tests) in absurd (omega (arith, k, lt))
    by false true e f k h = let lt : y < 254 = grind (arith, nat_tests) in absurd (omega (arith, k, lt))
    by false false e f k h = h

head_less : (n before : ℕ) (s t : List ℕ) → head_from n before s < head_from n before t → slice_cmp nat_cmp s t ≡ Less
head_less zero before s t h = absurd (omega (arith, h))
head_less (suc n) before s t h =
    by (head_less n (before * 256 + digit s) (after s) (after t)) (more_before n (before * 256 + digit t) (before * 256 + digit s) (after t) (after s)) (nat_cmp (digit s) (digit t)) (ranks (digit s) (digit t))
  where
    by : (head_from n (before * 256 + digit s) (after s) < head_from n (before * 256 + digit s) (after t) → slice_cmp nat_cmp (after s) (after t) ≡ Less)
        → (before * 256 + digit t < before * 256 + digit s → head_from n (before * 256 + digit t) (after t) < head_from n (before * 256 + digit s) (after s))
        → (o : Ordering) → MatchOrdering o (digit s < digit t) (digit s ≡ digit t) (digit t < digit s) → slice_cmp nat_cmp s t ≡ Less
    by further more Less lt = digit_less s t lt
    by further more Equal e =
        after_less s t e (further (subst (λ d. head_from n (before * 256 + digit s) (after s) < head_from n (before * 256 + d) (after t)) (sym e) h))
    by further more Greater gt = let after = more (omega (arith, gt)) in absurd (omega (arith, h, after))

-- ---- the last digit is 0 where the text ends before it, and then the digits tell the text

digit_same : (s t : List ℕ) → digit s ≡ digit t → after s ≡ after t → s ≡ t
digit_same [] [] e h = refl
digit_same [] (y ∷ t) e h = absurd (by (nat_lt y 254) (sym e))
  where
    by : (p : Bool) → cond p (1 + y) 255 ≡ 0 → ⊥
    by true e = omega (arith, e)
    by false e = omega (arith, e)
digit_same (x ∷ s) [] e h = absurd (by (nat_lt x 254) e)
  where
    by : (p : Bool) → cond p (1 + x) 255 ≡ 0 → ⊥
    by true e = omega (arith, e)
    by false e = omega (arith, e)
digit_same (x ∷ s) (y ∷ t) e h = by (nat_lt x 254) (nat_lt y 254) refl refl e h
  where
    by : (p q : Bool) → nat_lt x 254 ≡ p → nat_lt y 254 ≡ q → cond p (1 + x) 255 ≡ cond q (1 + y) 255 → cond p s (x ∷ s) ≡ cond q t (y ∷ t) → x ∷ s ≡ y ∷ t
    by true true e f k h = let same : x ≡ y = omega (arith, k) in ap₂ (λ (z : ℕ) (r : List ℕ). z ∷ r) same h
    by true false e f k h = let lt : x < 254 = grind (arith, nat_tests) in absurd (omega (arith, k, lt))
    by false true e f k h = let lt : y < 254 = grind (arith, nat_tests) in absurd (omega (arith, k, lt))
    by false false e f k h = h

ended : (t : List ℕ) → digit t ≡ 0 → t ≡ []
ended [] e = refl
ended (x ∷ t) e = absurd (by (nat_lt x 254) e)
  where
    by : (p : Bool) → cond p (1 + x) 255 ≡ 0 → ⊥
    by true e = omega (arith, e)
    by false e = omega (arith, e)

head_same : (n before : ℕ) (s t : List ℕ) → head_from (suc n) before s ≡ head_from (suc n) before t → head_from (suc n) before s % 256 ≡ 0 → s ≡ t
head_same zero before s t e h =
    let few = digit_few s in
    let none : digit s ≡ 0 = omega (arith, h, few) in
    let none_too : digit t ≡ 0 = omega (arith, none, e) in
    ended s none ∙ sym (ended t none_too)
head_same (suc n) before s t e h =
    by (head_same n (before * 256 + digit s) (after s) (after t)) (more_before (suc n) (before * 256 + digit t) (before * 256 + digit s) (after t) (after s))
    (more_before (suc n) (before * 256 + digit s) (before * 256 + digit t) (after s) (after t)) (nat_cmp (digit s) (digit t)) (ranks (digit s) (digit t))
  where
    by : (head_from (suc n) (before * 256 + digit s) (after s) ≡ head_from (suc n) (before * 256 + digit s) (after t) → head_from (suc n) (before * 256 + digit s) (after s) % 256 ≡ 0 → after s ≡ after t)
        → (before * 256 + digit t < before * 256 + digit s → head_from (suc n) (before * 256 + digit t) (after t) < head_from (suc n) (before * 256 + digit s) (after s))
        → (before * 256 + digit s < before * 256 + digit t → head_from (suc n) (before * 256 + digit s) (after s) < head_from (suc n) (before * 256 + digit t) (after t))
        → (o : Ordering) → MatchOrdering o (digit s < digit t) (digit s ≡ digit t) (digit t < digit s) → s ≡ t
    by further more fewer Less lt = let after = fewer (omega (arith, lt)) in absurd (omega (arith, e, after))
    by further more fewer Equal d =
        digit_same s t d (further (e ∙ ap (λ k. head_from (suc n) (before * 256 + k) (after t)) (sym d)) h)
    by further more fewer Greater gt = let after = more (omega (arith, gt)) in absurd (omega (arith, e, after))

-- ---- numbers

-- a number within the bounds stands between them
record Bounded (high m : ℤ) : Type 0 where
  at_least : low high ≤ℤ m
  at_most : m ≤ℤ high

bounded : (high n : ℤ) → pos 0 ≤ℤ high → Bounded high (within high n)
bounded high n far = by (int_lt n (low high)) (int_lt high n) refl refl
  where
    by : (a b : Bool) → int_lt n (low high) ≡ a → int_lt high n ≡ b → Bounded high (cond a (low high) (cond b high n))
    by true b p q = record { at_least = omega (arith, ints); at_most = omega (arith, ints, far) }
    by false true p q = record { at_least = omega (arith, ints, far); at_most = omega (arith, ints) }
    by false false p q = record { at_least = grind (arith, ints); at_most = grind (arith, ints) }

less_z : (a b : ℤ) → a <ℤ b → int_cmp a b ≡ Less
less_z a b h = grind (arith, ints)

within_less : (high n m : ℤ) → pos 0 ≤ℤ high → within high n <ℤ within high m → n <ℤ m
within_less high n m far h = by (int_lt n (low high)) (int_lt high n) (int_lt m (low high)) (int_lt high m) refl refl refl refl h
  where
    by : (a b c d : Bool) → int_lt n (low high) ≡ a → int_lt high n ≡ b → int_lt m (low high) ≡ c → int_lt high m ≡ d
        → cond a (low high) (cond b high n) <ℤ cond c (low high) (cond d high m) → n <ℤ m
    by true b true d p q r s h = absurd (omega (arith, ints, h))
    by true b false true p q r s h = grind (arith, ints, far)
    by true b false false p q r s h = grind (arith, ints)
    by false true true d p q r s h = absurd (omega (arith, ints, h, far))
    by false true false true p q r s h = absurd (omega (arith, ints, h))
    by false true false false p q r s h = grind (arith, ints)
    by false false true d p q r s h = grind (arith, ints)
    by false false false true p q r s h = grind (arith, ints)
    by false false false false p q r s h = h

inside : (high n m : ℤ) → pos 0 ≤ℤ high → (int_lt (low high) n && int_lt n high) ≡ true → within high n ≡ within high m → n ≡ m
inside high n m far h e = by (int_lt (low high) n) (int_lt n high) (int_lt n (low high)) (int_lt high n) (int_lt m (low high)) (int_lt high m) refl refl refl refl refl refl h e
  where
    by : (x y a b c d : Bool) → int_lt (low high) n ≡ x → int_lt n high ≡ y → int_lt n (low high) ≡ a → int_lt high n ≡ b → int_lt m (low high) ≡ c → int_lt high m ≡ d
        → (x && y) ≡ true → cond a (low high) (cond b high n) ≡ cond c (low high) (cond d high m) → n ≡ m
    by false y a b c d u v p q r s h e = absurd cc
    by true false a b c d u v p q r s h e = absurd cc
    by true true true b c d u v p q r s h e = absurd (grind (arith, ints))
    by true true false true c d u v p q r s h e = absurd (grind (arith, ints))
    by true true false false true d u v p q r s h e = absurd (grind (arith, ints, e))
    by true true false false false true u v p q r s h e = absurd (grind (arith, ints, e))
    by true true false false false false u v p q r s h e = e

-- ---- values

head_part : (texts : Bool) (s t : List ℕ) → cond texts (head s) 0 < cond texts (head t) 0 → slice_cmp nat_cmp s t ≡ Less
head_part true s t h = head_less 7 0 s t h
head_part false s t h = absurd (omega (arith, h))

pub rank_less : (high : ℤ) (texts : Bool) (a b : Value) → pos 0 ≤ℤ high → rank_of high texts a <ℤ rank_of high texts b → value_cmp a b ≡ Less
rank_less high texts value.Null value.Null far h = absurd (omega (arith, ints, h))
rank_less high texts value.Null (value.Bool b) far h = refl
rank_less high texts value.Null (value.Int n) far h = refl
rank_less high texts value.Null (value.Date d) far h = refl
rank_less high texts value.Null (value.Text t) far h = refl
rank_less high texts (value.Bool false) value.Null far h = absurd (omega (arith, ints, h))
rank_less high texts (value.Bool true) value.Null far h = absurd (omega (arith, ints, h))
rank_less high texts (value.Bool false) (value.Bool false) far h = absurd (omega (arith, ints, h))
rank_less high texts (value.Bool false) (value.Bool true) far h = refl
rank_less high texts (value.Bool true) (value.Bool false) far h = absurd (omega (arith, ints, h))
rank_less high texts (value.Bool true) (value.Bool true) far h = absurd (omega (arith, ints, h))
rank_less high texts (value.Bool b) (value.Int n) far h = refl
rank_less high texts (value.Bool b) (value.Date d) far h = refl
rank_less high texts (value.Bool b) (value.Text t) far h = refl
rank_less high texts (value.Int n) value.Null far h = let low = (bounded high n far).at_least in absurd (omega (arith, ints, h, low))
rank_less high texts (value.Int n) (value.Bool false) far h = let low = (bounded high n far).at_least in absurd (omega (arith, ints, h, low))
rank_less high texts (value.Int n) (value.Bool true) far h = let low = (bounded high n far).at_least in absurd (omega (arith, ints, h, low))
rank_less high texts (value.Int n) (value.Int m) far h = ap (λ (o : Ordering). ordering_then o Equal) (less_z n m (within_less high n m far h))
rank_less high texts (value.Int n) (value.Date d) far h = refl
rank_less high texts (value.Int n) (value.Text t) far h = refl
rank_less high texts (value.Date d) value.Null far h = absurd (omega (arith, ints, h, far))
rank_less high texts (value.Date d) (value.Bool false) far h = absurd (omega (arith, ints, h, far))
rank_less high texts (value.Date d) (value.Bool true) far h = absurd (omega (arith, ints, h, far))
rank_less high texts (value.Date d) (value.Int n) far h = let most = (bounded high n far).at_most in absurd (omega (arith, ints, h, most))
rank_less high texts (value.Date d) (value.Date e) far h = let lt : d < e = omega (arith, ints, h) in ap (λ (o : Ordering). ordering_then o Equal) (less_n d e lt)
rank_less high texts (value.Date d) (value.Text t) far h = refl
rank_less high texts (value.Text t) value.Null far h = absurd (omega (arith, ints, h, far))
rank_less high texts (value.Text t) (value.Bool false) far h = absurd (omega (arith, ints, h, far))
rank_less high texts (value.Text t) (value.Bool true) far h = absurd (omega (arith, ints, h, far))
rank_less high texts (value.Text t) (value.Int n) far h = let most = (bounded high n far).at_most in absurd (omega (arith, ints, h, most))
rank_less high texts (value.Text t) (value.Date d) far h = absurd (omega (arith, ints, h))
rank_less high texts (value.Text t) (value.Text u) far h = let lt : cond texts (head t) 0 < cond texts (head u) 0 = omega (arith, ints, h) in head_part texts t u lt

day_same : (d f : ℕ) → nat_lt d (2 ^ 22 - 1) ≡ true → min d (2 ^ 22 - 1) ≡ min f (2 ^ 22 - 1) → d ≡ f
day_same d f h e = let lt : d < 2 ^ 22 - 1 = grind (arith, nat_tests) in omega (arith, lt, e)

text_same : (texts : Bool) (t u : List ℕ) → (texts && (head t % 256 == 0)) ≡ true → cond texts (head t) 0 ≡ cond texts (head u) 0 → t ≡ u
text_same false t u h e = absurd cc
text_same true t u h e = let last : head t % 256 ≡ 0 = grind (arith, nat_tests) in head_same 6 0 t u e last

pub exact_same : (high : ℤ) (texts : Bool) (a b : Value) → pos 0 ≤ℤ high → rank_of high texts a ≡ rank_of high texts b → is_exact high texts a ≡ true → a ≡ b
exact_same high texts value.Null value.Null far e h = refl
exact_same high texts value.Null (value.Bool false) far e h = absurd (omega (arith, ints, e))
exact_same high texts value.Null (value.Bool true) far e h = absurd (omega (arith, ints, e))
exact_same high texts value.Null (value.Int n) far e h = let low = (bounded high n far).at_least in absurd (omega (arith, ints, e, low))
exact_same high texts value.Null (value.Date d) far e h = absurd (omega (arith, ints, e, far))
exact_same high texts value.Null (value.Text t) far e h = absurd (omega (arith, ints, e, far))
exact_same high texts (value.Bool false) value.Null far e h = absurd (omega (arith, ints, e))
exact_same high texts (value.Bool true) value.Null far e h = absurd (omega (arith, ints, e))
exact_same high texts (value.Bool false) (value.Bool false) far e h = refl
exact_same high texts (value.Bool false) (value.Bool true) far e h = absurd (omega (arith, ints, e))
exact_same high texts (value.Bool true) (value.Bool false) far e h = absurd (omega (arith, ints, e))
exact_same high texts (value.Bool true) (value.Bool true) far e h = refl
exact_same high texts (value.Bool false) (value.Int n) far e h = let low = (bounded high n far).at_least in absurd (omega (arith, ints, e, low))
exact_same high texts (value.Bool true) (value.Int n) far e h = let low = (bounded high n far).at_least in absurd (omega (arith, ints, e, low))
exact_same high texts (value.Bool false) (value.Date d) far e h = absurd (omega (arith, ints, e, far))
exact_same high texts (value.Bool true) (value.Date d) far e h = absurd (omega (arith, ints, e, far))
exact_same high texts (value.Bool false) (value.Text t) far e h = absurd (omega (arith, ints, e, far))
exact_same high texts (value.Bool true) (value.Text t) far e h = absurd (omega (arith, ints, e, far))
exact_same high texts (value.Int n) value.Null far e h = let low = (bounded high n far).at_least in absurd (omega (arith, ints, e, low))
exact_same high texts (value.Int n) (value.Bool false) far e h = let low = (bounded high n far).at_least in absurd (omega (arith, ints, e, low))
exact_same high texts (value.Int n) (value.Bool true) far e h = let low = (bounded high n far).at_least in absurd (omega (arith, ints, e, low))
exact_same high texts (value.Int n) (value.Int m) far e h = ap value.Int (inside high n m far h e)
exact_same high texts (value.Int n) (value.Date d) far e h = let most = (bounded high n far).at_most in absurd (omega (arith, ints, e, most))
exact_same high texts (value.Int n) (value.Text t) far e h = let most = (bounded high n far).at_most in absurd (omega (arith, ints, e, most))
exact_same high texts (value.Date d) value.Null far e h = absurd (omega (arith, ints, e, far))
exact_same high texts (value.Date d) (value.Bool false) far e h = absurd (omega (arith, ints, e, far))
exact_same high texts (value.Date d) (value.Bool true) far e h = absurd (omega (arith, ints, e, far))
exact_same high texts (value.Date d) (value.Int n) far e h = let most = (bounded high n far).at_most in absurd (omega (arith, ints, e, most))
exact_same high texts (value.Date d) (value.Date f) far e h = let same : min d (2 ^ 22 - 1) ≡ min f (2 ^ 22 - 1) = omega (arith, ints, e) in ap value.Date (day_same d f h same)
exact_same high texts (value.Date d) (value.Text t) far e h = absurd (omega (arith, ints, e))
exact_same high texts (value.Text t) value.Null far e h = absurd (omega (arith, ints, e, far))
exact_same high texts (value.Text t) (value.Bool false) far e h = absurd (omega (arith, ints, e, far))
exact_same high texts (value.Text t) (value.Bool true) far e h = absurd (omega (arith, ints, e, far))
exact_same high texts (value.Text t) (value.Int n) far e h = let most = (bounded high n far).at_most in absurd (omega (arith, ints, e, most))
exact_same high texts (value.Text t) (value.Date d) far e h = absurd (omega (arith, ints, e))
exact_same high texts (value.Text t) (value.Text u) far e h = let same : cond texts (head t) 0 ≡ cond texts (head u) 0 = omega (arith, ints, e) in ap value.Text (text_same texts t u h same)
