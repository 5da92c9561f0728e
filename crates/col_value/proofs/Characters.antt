-- The ten characters of a date name it.
use Rattle.std.proofs.Common.{◌≡◌, ◌⊎◌, ◌+◌, ◌*◌, ◌/◌, ◌%◌, ◌≤◌, inl, inr, ℕ, zero, suc, pos, true, List, [], ◌∷◌, length, get_or, refl, sym, ap, ◌∙◌, arith}
use Rattle.std.specs.Prelude.{Option, Some, None, IfSome, IfNone}
use Rattle.std.specs.Str.{bytes_eq}
use Rattle.std.proofs.lemmas.Bool.{cases_Bool, cases_lt}
use Rattle.std.proofs.lemmas.Slice.Eq.{bytes_eq-Decides}
use Rattle.jiff_core.proofs.CalendarLemmas.{days_in_month_bounds}
use Rattle.col_value.specs.Days.{Ymd, digit, ten, date_of, IsDay, SaysDay, ReadsDay}
use Rattle.col_value.proofs.Calendar.{day_is_civil, one_day}

pub by_digits : (high low : ℕ) → high ≤ 99 → low ≤ 99 → (e g : ℕ) → e ≤ 99 → g ≤ 99 → (48 + high / 10) ∷ (48 + high % 10) ∷ (48 + low / 10) ∷ (48 + low % 10) ∷ 45 ∷ (48 + e / 10) ∷ (48 + e % 10) ∷ 45 ∷ (48 + g / 10) ∷ (48 + g % 10) ∷ [] ≡ ten (high * 100 + low, e, g)
by_digits high low h l e g m n =
    let a : 48 + high / 10 ≡ digit ((high * 100 + low) / 1000) = omega (arith, h, l) in
    let b : 48 + high % 10 ≡ digit ((high * 100 + low) / 100) = omega (arith, h, l) in
    let c : 48 + low / 10 ≡ digit ((high * 100 + low) / 10) = omega (arith, h, l) in
    let d : 48 + low % 10 ≡ digit (high * 100 + low) = omega (arith, h, l) in
    let p : 48 + e / 10 ≡ digit (e / 10) = omega (arith, m) in
    let q : 48 + g / 10 ≡ digit (g / 10) = omega (arith, n) in
    rw (a, b, c, d, p, q) refl

-- a list of ten by its elements
listed : (t : List ℕ) → length t ≡ 10 → t ≡ get_or t 0 0 ∷ get_or t 1 0 ∷ get_or t 2 0 ∷ get_or t 3 0 ∷ get_or t 4 0 ∷ get_or t 5 0 ∷ get_or t 6 0 ∷ get_or t 7 0 ∷ get_or t 8 0 ∷ get_or t 9 0 ∷ []
listed [] len = absurd (omega (arith, len))
listed (a ∷ []) len = absurd (omega (arith, len))
listed (a ∷ b ∷ []) len = absurd (omega (arith, len))
listed (a ∷ b ∷ c ∷ []) len = absurd (omega (arith, len))
listed (a ∷ b ∷ c ∷ d ∷ []) len = absurd (omega (arith, len))
listed (a ∷ b ∷ c ∷ d ∷ e ∷ []) len = absurd (omega (arith, len))
listed (a ∷ b ∷ c ∷ d ∷ e ∷ f ∷ []) len = absurd (omega (arith, len))
listed (a ∷ b ∷ c ∷ d ∷ e ∷ f ∷ g ∷ []) len = absurd (omega (arith, len))
listed (a ∷ b ∷ c ∷ d ∷ e ∷ f ∷ g ∷ h ∷ []) len = absurd (omega (arith, len))
listed (a ∷ b ∷ c ∷ d ∷ e ∷ f ∷ g ∷ h ∷ i ∷ []) len = absurd (omega (arith, len))
listed (a ∷ b ∷ c ∷ d ∷ e ∷ f ∷ g ∷ h ∷ i ∷ j ∷ []) len = refl
listed (a ∷ b ∷ c ∷ d ∷ e ∷ f ∷ g ∷ h ∷ i ∷ j ∷ k ∷ t) len = absurd (omega (arith, len))

abbrev pub IsTwo : ℕ → ℕ → ℕ → Type 0
IsTwo n high low = (n ≤ 99) × (high ≡ 48 + n / 10) × (low ≡ 48 + n % 10)

pub parts_named : (t : List ℕ) (y k high low month day : ℕ) → length t ≡ 10 → get_or t 4 0 ≡ 45 → get_or t 7 0 ≡ 45 → IsTwo high (get_or t 0 0) (get_or t 1 0) → IsTwo low (get_or t 2 0) (get_or t 3 0)
    → IsTwo month (get_or t 5 0) (get_or t 6 0) → IsTwo day (get_or t 8 0) (get_or t 9 0) → y ≡ high → k ≡ low
    → (y * 100 + k ≤ 9999) × (month ≤ 99) × (day ≤ 99) × (t ≡ ten (y * 100 + k, month, day))
parts_named t y k high low month day long first second a b e g same like =
    let text : t ≡ ten (high * 100 + low, month, day) = listed t long ∙ rw (a.1, a.2, b.1, b.2, first, e.1, e.2, second, g.1, g.2) (by_digits high low a.0 b.0 month day e.0 g.0) in
    let made : t ≡ ten (y * 100 + k, month, day) = text ∙ rw (same, like) refl in
    (omega (arith, same, like, a.0, b.0), e.0, g.0, made)

two_same : (n k : ℕ) → n ≤ 99 → k ≤ 99 → digit (n / 10) ≡ digit (k / 10) → digit n ≡ digit k → n ≡ k
two_same n k few less high low = omega (arith, few, less, high, low)

four_same : (n k : ℕ) → n ≤ 9999 → k ≤ 9999 → digit (n / 1000) ≡ digit (k / 1000) → digit (n / 100) ≡ digit (k / 100) → digit (n / 10) ≡ digit (k / 10) → digit n ≡ digit k → n ≡ k
four_same n k few less a b c d = omega (arith, few, less, a, b, c, d)

-- the numbers are short enough for their digits
abbrev pub IsShort : Ymd → Type 0
IsShort x = (x.0 ≤ 9999) × (x.1 ≤ 99) × (x.2 ≤ 99)

first : (a b : ℕ) (s t : List ℕ) → a ∷ s ≡ b ∷ t → a ≡ b
first a b s t e = cc

rest : (a b : ℕ) (s t : List ℕ) → a ∷ s ≡ b ∷ t → s ≡ t
rest a b s t e = cc

-- ten characters are those of one date
pub ten_same : (x y : Ymd) → IsShort x → IsShort y → ten x ≡ ten y → x ≡ y
ten_same (y, m, d) (v, n, e) few less same =
    let r1 = rest _ _ _ _ same in
    let r2 = rest _ _ _ _ r1 in
    let r3 = rest _ _ _ _ r2 in
    let r5 = rest _ _ _ _ (rest _ _ _ _ r3) in
    let r6 = rest _ _ _ _ r5 in
    let r8 = rest _ _ _ _ (rest _ _ _ _ r6) in
    let r9 = rest _ _ _ _ r8 in
    let year : y ≡ v = four_same y v few.0 less.0 (first _ _ _ _ same) (first _ _ _ _ r1) (first _ _ _ _ r2) (first _ _ _ _ r3) in
    let month : m ≡ n = two_same m n few.1 less.1 (first _ _ _ _ r5) (first _ _ _ _ r6) in
    let day : d ≡ e = two_same d e few.2 less.2 (first _ _ _ _ r8) (first _ _ _ _ r9) in
    rw (year, month, day) refl

pub date_short : (n : ℕ) → IsDay n → IsShort (date_of n)
date_short n is =
    let at = day_is_civil n is in
    (at.year.1, omega (arith, at.month), omega (arith, at.day, (days_in_month_bounds (pos (date_of n).0) (date_of n).1).0))

-- what is known of a date's parts is known of its characters
pub reads_day : (text : List ℕ) (x : Ymd) (o : Option ℕ) → IsShort x → text ≡ ten x → IfSome o (λ n. IsDay n × (date_of n ≡ x)) → IfNone o ((n : ℕ) → IsDay n → date_of n ≡ x → ⊥) → ReadsDay text o
reads_day text x (Some n) few same found none = (found.0, same ∙ ap ten (sym found.1))
reads_day text x None few same found none = λ n says. none n says.0 (ten_same (date_of n) x (date_short n says.0) few (sym says.1 ∙ same))

-- two days have two texts
pub one_text : (n k : ℕ) → IsDay n → IsDay k → ten (date_of n) ≡ ten (date_of k) → n ≡ k
one_text n k is at e = one_day n k is at (ten_same (date_of n) (date_of k) (date_short n is) (date_short k at) e)

-- two lists are the same, or not
is_or_not : (xs ys : List ℕ) → (xs ≡ ys) ⊎ (xs ≡ ys → ⊥)
is_or_not xs ys =
    elim (cases_Bool (bytes_eq xs ys)) [
      | inl t ↦ inl ((bytes_eq-Decides xs ys).0 t)
      | inr f ↦ inr (λ e. let t : bytes_eq xs ys ≡ true = (bytes_eq-Decides xs ys).1 e in absurd cc)
    ]

one_more : (text : List ℕ) (k : ℕ) → ((n : ℕ) × (n ≤ k) × SaysDay text n) ⊎ ((n : ℕ) → n ≤ k → SaysDay text n → ⊥) → suc k ≤ 3652059
    → ((n : ℕ) × (n ≤ suc k) × SaysDay text n) ⊎ ((n : ℕ) → n ≤ suc k → SaysDay text n → ⊥)
one_more text k (inl (n, le, says)) few = inl (n, omega (arith, le), says)
one_more text k (inr none) few =
    elim (is_or_not text (ten (date_of (suc k)))) [
      | inl same ↦ inl (suc k, omega arith, ((omega arith, few), same))
      | inr other ↦ inr (λ n le says. elim (cases_lt k n) [
        | inr low ↦ none n low says
        | inl high ↦ let last : n ≡ suc k = omega (arith, high, le) in other (says.1 ∙ ap (λ (m : ℕ). ten (date_of m)) last)
      ])
    ]

no_more : (text : List ℕ) (k : ℕ) → k ≤ 3652059 → ((n : ℕ) × (n ≤ k) × SaysDay text n) ⊎ ((n : ℕ) → n ≤ k → SaysDay text n → ⊥)
no_more text zero few = inr (λ n le says. let low : 1 ≤ n = says.0.0 in absurd (omega (arith, le, low)))
no_more text (suc k) few = one_more text k (no_more text k (omega (arith, few))) few

pub says_or_not : (text : List ℕ) → ((n : ℕ) × SaysDay text n) ⊎ ((n : ℕ) → SaysDay text n → ⊥)
says_or_not text =
    elim (no_more text 3652059 (omega arith)) [
      | inl (n, le, says) ↦ inl (n, says)
      | inr none ↦ inr (λ n says. none n says.0.1 says)
    ]
