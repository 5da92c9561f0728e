-- Numbers that are apart: in another order, and in their own.
use Rattle.std.proofs.Common.{◌≡◌, ◌≢◌, ℕ, zero, suc, ◌+◌, ◌<◌, ◌≤◌, List, [], ◌∷◌, ◌++◌, get_or, take, length, map, refl, sym, ◌∙◌, ap, subst, inl, inr, arith}
use Rattle.std.specs.Prelude.{◌⊎◌}
use Rattle.std.specs.List.{All, swap}
use Rattle.std.specs.List.Sorted.{IsPermutation}
use Rattle.std.proofs.lemmas.List.{map-append, take_more}
use Rattle.std.proofs.lemmas.List.Edits.{Swapped, length-swap, swapped_from_swap}
use Rattle.std.proofs.lemmas.List.Elements.{All-cons, All-nil, All-push, All-weaker}
use Rattle.std.proofs.lemmas.List.Sorted.{IsPermutation-keeps, IsPermutation-map, IsPermutation-sym}
use Rattle.catalog_types.specs.declared.span.Span.{Span}
use Rattle.catalog_types.specs.Lists.{Pairwise}
use Rattle.catalog_types.specs.Numbers.{AreApart}
use Rattle.catalog_types.proofs.Pairs.{pairs_append}
use Rattle.catalog_laws.specs.declared.runs.Run.{Run}
use Rattle.catalog_laws.specs.Entries.{span_of_run}

same_or_not : (a b : ℕ) → (a ≡ b) ⊎ (a ≢ b)
same_or_not zero zero = inl refl
same_or_not zero (suc b) = inr (λ e. absurd (omega (arith, e)))
same_or_not (suc a) zero = inr (λ e. absurd (omega (arith, e)))
same_or_not (suc a) (suc b) = by (same_or_not a b)
  where
    by : (a ≡ b) ⊎ (a ≢ b) → (suc a ≡ suc b) ⊎ (suc a ≢ suc b)
    by (inl e) = inl (ap suc e)
    by (inr n) = inr (λ e. n (omega (arith, e)))

-- of each two places, whichever stands first
abbrev pub AtPlaces : {X : Type 0} → (X → X → Type 0) → List X → Type 0
AtPlaces R xs = (i j : ℕ) → (d : _) → i ≢ j → i < length xs → j < length xs → R (get_or xs i d) (get_or xs j d)

module _ {X : Type 0} (R : X → X → Type 0) (back_too : (x y : X) → R x y → R y x) where
  at_places : (xs : List X) → Pairwise R xs → AtPlaces R xs
  at_places [] pairs i j d differ lt less = absurd (omega (arith, lt))
  at_places (x ∷ xs) pairs zero zero d differ lt less = absurd (differ refl)
  at_places (x ∷ xs) pairs zero (suc j) d differ lt less = pairs.0 j d (omega (arith, less))
  at_places (x ∷ xs) pairs (suc i) zero d differ lt less = back_too x (get_or xs i d) (pairs.0 i d (omega (arith, lt)))
  at_places (x ∷ xs) pairs (suc i) (suc j) d differ lt less = at_places xs pairs.1 i j d (λ e. differ (ap suc e)) (omega (arith, lt)) (omega (arith, less))

  from_places : (xs : List X) → AtPlaces R xs → Pairwise R xs
  from_places [] all = tt
  from_places (x ∷ xs) all = (
    λ j d lt. all zero (suc j) d (λ e. absurd (omega (arith, e))) (omega arith) (omega (arith, lt)),
    from_places xs (λ i j d differ lt less. all (suc i) (suc j) d (λ e. differ (omega (arith, e))) (omega (arith, lt)) (omega (arith, less))),
  )

  -- two elements changed places
  pairs_swap : (xs : List X) (a b : ℕ) → a < length xs → b < length xs → Pairwise R xs → Pairwise R (swap xs a b)
  pairs_swap xs a b p q pairs = from_places (swap xs a b) all
    where
      was : AtPlaces R xs
      was = at_places xs pairs

      all : AtPlaces R (swap xs a b)
      all i j d differ lt less =
          by (same_or_not i a) (same_or_not i b) (same_or_not j a) (same_or_not j b)
        where
          s : Swapped (λ m. get_or xs m d) (λ m. get_or (swap xs a b) m d) a b
          s = swapped_from_swap xs (swap xs a b) a b d p q refl

          long : length (swap xs a b) ≡ length xs
          long = length-swap xs a b

          -- the place that an element had
          from : (m m' : ℕ) → get_or (swap xs a b) m d ≡ get_or xs m' d → (n n' : ℕ) → get_or (swap xs a b) n d ≡ get_or xs n' d → R (get_or xs m' d) (get_or xs n' d) → R (get_or (swap xs a b) m d) (get_or (swap xs a b) n d)
          from m m' e n n' f r = subst (λ (x : X). R x (get_or (swap xs a b) n d)) (sym e) (subst (R (get_or xs m' d)) (sym f) r)

          at : (m : ℕ) → (m ≡ a) ⊎ (m ≢ a) → (m ≡ b) ⊎ (m ≢ b) → m < length xs
              → (k : ℕ) × (get_or (swap xs a b) m d ≡ get_or xs k d) × (k < length xs) × ((m ≡ a) × (k ≡ b) ⊎ ((m ≡ b) × (k ≡ a) ⊎ ((m ≢ a) × (m ≢ b) × (k ≡ m))))
          at m (inl e) o within = (b, ap (λ (n : ℕ). get_or (swap xs a b) n d) e ∙ s.0, q, inl (e, refl))
          at m (inr n) (inl e) within = (a, ap (λ (k : ℕ). get_or (swap xs a b) k d) e ∙ s.1, p, inr (inl (e, refl)))
          at m (inr n) (inr o) within = (m, s.2 m n o, within, inr (inr (n, o, refl)))

          by : (i ≡ a) ⊎ (i ≢ a) → (i ≡ b) ⊎ (i ≢ b) → (j ≡ a) ⊎ (j ≢ a) → (j ≡ b) ⊎ (j ≢ b) → R (get_or (swap xs a b) i d) (get_or (swap xs a b) j d)
          by ia ib ja jb =
              let f = at i ia ib (omega (arith, lt, long)) in
              let g = at j ja jb (omega (arith, less, long)) in
              from i f.0 f.1 j g.0 g.1 (was f.0 g.0 d (apart f.0 g.0 f.3 g.3) f.2 g.2)
            where
              apart : (k l : ℕ) → (i ≡ a) × (k ≡ b) ⊎ ((i ≡ b) × (k ≡ a) ⊎ ((i ≢ a) × (i ≢ b) × (k ≡ i))) → (j ≡ a) × (l ≡ b) ⊎ ((j ≡ b) × (l ≡ a) ⊎ ((j ≢ a) × (j ≢ b) × (l ≡ j))) → k ≢ l
              apart k l (inl (e, f)) (inl (g, h)) is = differ (e ∙ sym g)
              apart k l (inl (e, f)) (inr (inl (g, h))) is = differ (omega (arith, e, f, g, h, is))
              apart k l (inl (e, f)) (inr (inr (m, n, h))) is = n (omega (arith, f, h, is))
              apart k l (inr (inl (e, f))) (inl (g, h)) is = differ (omega (arith, e, f, g, h, is))
              apart k l (inr (inl (e, f))) (inr (inl (g, h))) is = differ (e ∙ sym g)
              apart k l (inr (inl (e, f))) (inr (inr (m, n, h))) is = m (omega (arith, f, h, is))
              apart k l (inr (inr (m, n, f))) (inl (g, h)) is = n (omega (arith, f, h, is))
              apart k l (inr (inr (m, n, f))) (inr (inl (g, h))) is = m (omega (arith, f, h, is))
              apart k l (inr (inr (m, n, f))) (inr (inr (u, v, h))) is = differ (omega (arith, f, h, is))

  pub pairs_in_order : (xs ys : List X) → IsPermutation xs ys → Pairwise R xs → Pairwise R ys
  pairs_in_order xs ys same pairs = IsPermutation-keeps xs (Pairwise R) pairs pairs_swap ys same

-- ---- runs

pub apart_too : (a b : Span) → AreApart a b → AreApart b a
apart_too a b (inl le) = inr le
apart_too a b (inr le) = inl le

abbrev no_run : Run
no_run = record { first = 0; end = 0 }

-- one more that begins where those before it have ended
pub one_more : (runs : List Run) (i low high : ℕ) → i < length runs → low ≤ (get_or runs i no_run).first → (get_or runs i no_run).end ≤ high → low ≤ high → Pairwise AreApart (map span_of_run (take i runs))
    → All (λ s. s.end ≤ low) (map span_of_run (take i runs)) → Pairwise AreApart (map span_of_run (take (i + 1) runs)) × All (λ s. s.end ≤ high) (map span_of_run (take (i + 1) runs))
one_more runs i low high lt from upto le pairs ended =
    subst (λ (ss : List Span). Pairwise AreApart ss × All (λ s. s.end ≤ high) ss) (sym is) (
      (pairs_append AreApart before (here ∷ [])).1 (pairs, (All-nil (AreApart here), tt), All-weaker (λ s. s.end ≤ low) (λ s. All (AreApart s) (here ∷ [])) (λ s end. All-cons (AreApart s) here [] (inl (omega (arith, end, from))) (All-nil (AreApart s))) before ended),
      All-push (λ s. s.end ≤ high) before here (All-weaker (λ s. s.end ≤ low) (λ s. s.end ≤ high) (λ s end. omega (arith, end, le)) before ended) upto,
    )
  where
    before : List Span
    before = map span_of_run (take i runs)

    here : Span
    here = span_of_run (get_or runs i no_run)

    is : map span_of_run (take (i + 1) runs) ≡ before ++ here ∷ []
    is = ap (map span_of_run) (take_more runs i no_run lt) ∙ map-append span_of_run (take i runs) (get_or runs i no_run ∷ [])

-- so they were apart before they were put in order
pub drawn_apart : (runs sorted : List Run) → IsPermutation runs sorted → Pairwise AreApart (map span_of_run sorted) → Pairwise AreApart (map span_of_run runs)
drawn_apart runs sorted same pairs = pairs_in_order AreApart apart_too (map span_of_run sorted) (map span_of_run runs) (IsPermutation-sym (map span_of_run runs) (map span_of_run sorted) (IsPermutation-map span_of_run runs sorted same)) pairs
