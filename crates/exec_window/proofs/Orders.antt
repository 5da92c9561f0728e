-- What follows in a total order of how elements stand.
use Rattle.std.proofs.Common.{◌≡◌, suc, Bool, true, false, List, [], ◌∷◌, refl, sym, ap, ◌∙◌, arith}
use Rattle.std.specs.Cmp.{IsTotalOrder}
use Rattle.std.specs.List.{All, AllPairs}
use Rattle.std.specs.Ordering.{is_eq, is_le, is_lt, ordering_reverse}
use Rattle.std.specs.declared.cmp.Ordering.{Ordering}
use Rattle.std.proofs.lemmas.Cmp.{alike_right}

module _ {X : Type 0} (R : X → X → Ordering) (o : IsTotalOrder R) where
  pub neither : (a b : X) → is_lt (R a b) ≡ false → is_lt (R b a) ≡ false → R a b ≡ Ordering.Equal
  neither a b h k = by (R b a) (R a b) (o.antisymm a b) h k
    where
      by : (s t : Ordering) → t ≡ ordering_reverse s → is_lt t ≡ false → is_lt s ≡ false → t ≡ Ordering.Equal
      by Ordering.Less t e h k = cc
      by Ordering.Equal t e h k = e
      by Ordering.Greater t e h k = cc

  turned_less : (a b : X) → is_lt (R a b) ≡ true → R a b ≡ Ordering.Less
  turned_less a b h = by (R a b) h
    where
      by : (t : Ordering) → is_lt t ≡ true → t ≡ Ordering.Less
      by Ordering.Less k = refl
      by Ordering.Equal k = cc
      by Ordering.Greater k = cc

  -- b isn't less than a
  pub at_most : (a b : X) → is_lt (R b a) ≡ false → is_le (R a b) ≡ true
  at_most a b h = by (R b a) (R a b) (o.antisymm a b) h
    where
      by : (s t : Ordering) → t ≡ ordering_reverse s → is_lt s ≡ false → is_le t ≡ true
      by Ordering.Less t e k = cc
      by Ordering.Equal t e k = ap is_le e
      by Ordering.Greater t e k = ap is_le e

  pub less_of : (a b : X) → is_lt (R b a) ≡ false → is_eq (R a b) ≡ false → is_lt (R a b) ≡ true
  less_of a b h n = by (R b a) (R a b) (o.antisymm a b) h n
    where
      by : (s t : Ordering) → t ≡ ordering_reverse s → is_lt s ≡ false → is_eq t ≡ false → is_lt t ≡ true
      by Ordering.Less t e k m = cc
      by Ordering.Equal t e k m = absurd (clash (sym (ap is_eq e) ∙ m))
        where
          clash : true ≡ false → ⊥
          clash c = cc
      by Ordering.Greater t e k m = ap is_lt e

  pub beyond : (a b : X) → is_lt (R b a) ≡ true → is_le (R a b) ≡ false
  beyond a b h = ap is_le (o.antisymm a b ∙ ap ordering_reverse (turned_less b a h))

  pub not_less : (a b : X) → is_lt (R b a) ≡ true → is_lt (R a b) ≡ false
  not_less a b h = ap is_lt (o.antisymm a b ∙ ap ordering_reverse (turned_less b a h))

  -- a is less than b, and b at most c
  pub less_through : (a b c : X) → is_lt (R a b) ≡ true → is_lt (R c b) ≡ false → is_lt (R a c) ≡ true
  less_through a b c h k = by (R b c) refl
    where
      by : (t : Ordering) → R b c ≡ t → is_lt (R a c) ≡ true
      by Ordering.Less e = ap is_lt (o.trans a b c (turned_less a b h) e)
      by Ordering.Equal e = ap is_lt (sym (alike_right o b c a e) ∙ turned_less a b h)
      by Ordering.Greater e = absurd (clash (sym (ap is_lt (o.antisymm c b ∙ ap ordering_reverse e)) ∙ k))
        where
          clash : true ≡ false → ⊥
          clash c = cc

  -- a is at most b, and b less than c
  pub through_less : (a b c : X) → is_lt (R b a) ≡ false → is_lt (R b c) ≡ true → is_lt (R a c) ≡ true
  through_less a b c h k = by (R a b) refl
    where
      by : (t : Ordering) → R a b ≡ t → is_lt (R a c) ≡ true
      by Ordering.Less e = ap is_lt (o.trans a b c e (turned_less b c k))
      by Ordering.Equal e = ap is_lt (o.congr a b c e ∙ turned_less b c k)
      by Ordering.Greater e = absurd (clash (sym (ap is_lt (o.antisymm b a ∙ ap ordering_reverse e)) ∙ h))
        where
          clash : true ≡ false → ⊥
          clash c = cc

-- no element is less than one before it
abbrev pub Rises : {X : Type 0} → (X → X → Bool) → List X → Type 0
Rises lt [] = Unit {0}
Rises lt (x ∷ xs) = All (λ y. lt y x ≡ false) xs × Rises lt xs

pub pairs_rise : {X : Type 0} (lt : X → X → Bool) (xs : List X) → AllPairs (λ a b. lt b a ≡ false) xs → Rises lt xs
pairs_rise lt [] h = tt
pairs_rise lt (x ∷ xs) h = (
  λ k d inside. h 0 (suc k) d (omega arith) (omega arith),
  pairs_rise lt xs (λ i j d below inside. h (suc i) (suc j) d (omega arith) (omega arith)),
)
