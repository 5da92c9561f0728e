-- Spans that are apart have no more numbers than there are.
use Rattle.std.proofs.Common.{◌≡◌, ℕ, zero, suc, ◌+◌, ◌-◌, ◌≤◌, ◌<◌, Bool, true, false, cond, not, List, [], ◌∷◌, length, refl, inl, inr, arith}
use Rattle.std.specs.Prelude.{◌⊎◌, nat_le, sum_by}
use Rattle.std.specs.List.{All, filter}
use Rattle.std.proofs.lemmas.Bool.Decides.{nat_tests}
use Rattle.std.proofs.lemmas.List.Elements.{All-head, All-tail, All-filter, filter_passes}
use Rattle.std.proofs.lemmas.List.Filters.{sum_by-filter_both}
use Rattle.std.proofs.lemmas.List.Sums.{sum_by-cons}
use Rattle.catalog_types.specs.declared.span.Span.{Span}
use Rattle.catalog_types.specs.Lists.{Pairwise}
use Rattle.catalog_types.specs.Numbers.{AreApart}

abbrev pub width : Span → ℕ
width s = s.end - s.first

abbrev pub IsInside : ℕ → ℕ → Span → Type 0
IsInside low high s = (low ≤ s.first) × (s.first ≤ s.end) × (s.end ≤ high)

pairs_kept : {X : Type 0} (R : X → X → Type 0) (p : X → Bool) (xs : List X) → Pairwise R xs → Pairwise R (filter p xs)
pairs_kept R p [] pairs = tt
pairs_kept {X} R p (x ∷ xs) pairs = by (p x) (pairs_kept R p xs pairs.1)
  where
    by : (b : Bool) → Pairwise R (filter p xs) → Pairwise R (cond b (x ∷ filter p xs) (filter p xs))
    by true rest = (All-filter p (R x) xs pairs.0, rest)
    by false rest = rest

kept_short : {X : Type 0} (p : X → Bool) (xs : List X) → length (filter p xs) ≤ length xs
kept_short p [] = omega arith
kept_short {X} p (x ∷ xs) = by (p x) (kept_short p xs)
  where
    by : (b : Bool) → length (filter p xs) ≤ length xs → length (cond b (x ∷ filter p xs) (filter p xs)) ≤ length (x ∷ xs)
    by true rest = omega (arith, rest)
    by false rest = omega (arith, rest)

-- a span stands before another
abbrev before : Span → Span → Bool
before s r = nat_le r.end s.first

abbrev behind : Span → Span → Bool
behind s r = not (before s r)

is_before : (low high : ℕ) (s r : Span) → before s r ≡ true → IsInside low high r → IsInside low s.first r
is_before low high s r test inside = let le : r.end ≤ s.first = grind (arith, nat_tests, test) in (inside.0, inside.1, le)

is_behind : (low high : ℕ) (s r : Span) → behind s r ≡ true → AreApart s r → IsInside low high r → IsInside s.end high r
is_behind low high s r test (inl le) inside = (le, inside.1, inside.2)
is_behind low high s r test (inr le) inside = let not_before : before s r ≡ true = grind (arith, nat_tests, le) in absurd (cc)

pub fits : (n : ℕ) (spans : List Span) (low high : ℕ) → length spans ≤ n → low ≤ high → All (IsInside low high) spans → Pairwise AreApart spans → low + sum_by width spans ≤ high
fits n [] low high short le inside apart = omega (arith, le)
fits zero (s ∷ rest) low high short le inside apart = absurd (omega (arith, short))
fits (suc n) (s ∷ rest) low high short le inside apart =
    let here = All-head (IsInside low high) s rest inside in
    let later = All-tail (IsInside low high) s rest inside in
    let left = fits n (filter (before s) rest) low s.first (omega (arith, short, kept_short (before s) rest)) here.0
    (λ k d lt. is_before low high s _ (filter_passes (before s) rest k d lt) (All-filter (before s) (IsInside low high) rest later k d lt)) (pairs_kept AreApart (before s) rest apart.1) in
    let right = fits n (filter (behind s) rest) s.end high (omega (arith, short, kept_short (behind s) rest)) here.2
    (λ k d lt. is_behind low high s _ (filter_passes (behind s) rest k d lt) (All-filter (behind s) (AreApart s) rest apart.0 k d lt) (All-filter (behind s) (IsInside low high) rest later k d lt))
    (pairs_kept AreApart (behind s) rest apart.1) in
    omega (arith, left, right, sum_by-filter_both (before s) (behind s) (λ r. refl) width rest, sum_by-cons width s rest, here.1)
