-- One element of a list in the place of another.
use Rattle.std.proofs.Common.{◌≡◌, ◌+◌, ◌<◌, ℕ, zero, suc, Bool, true, false, cond, List, [], ◌∷◌, length, get_or, set, refl, subst, arith}
use Rattle.std.specs.Prelude.{find, Some, None}
use Rattle.std.specs.List.{All, AllPairs, enumerate_from}
use Rattle.std.proofs.lemmas.List.Elements.{All-cons, All-nil, All-set}
use Rattle.std.proofs.lemmas.List.Kept.{AllPairs-cons}
use Rattle.sound_laws.proofs.Pairs.{pairs_none, pairs_head, pairs_tail}

-- what holds of each element but the one at a place
abbrev pub AllBut : {X : Type 0} → (X → Type 0) → ℕ → List X → Type 0
AllBut {X} P k xs = (i : ℕ) (d : X) → i < length xs → (i ≡ k → ⊥) → P (get_or xs i d)

pub but_all : {X : Type 0} (P : X → Type 0) (k : ℕ) (xs : List X) → All P xs → AllBut P k xs
but_all P k xs all i d lt other = all i d lt

pub set_all_but : {X : Type 0} (P : X → Type 0) (xs : List X) (k : ℕ) (y : X) → P y → AllBut P k xs → All P (set xs k y)
set_all_but P [] k y here others = All-nil P
set_all_but P (x ∷ xs) zero y here others = All-cons P y xs here (λ i d lt. others (suc i) d (omega (arith, lt)) (λ is. omega (arith, is)))
set_all_but P (x ∷ xs) (suc k) y here others =
    All-cons P x (set xs k y) (others zero x (omega arith) (λ is. omega (arith, is)))
    (set_all_but P xs k y here (λ i d lt other. others (suc i) d (omega (arith, lt)) (λ is. other (omega (arith, is)))))

-- each pair still goes together where the new element goes with those before it and with those behind it
pub set_pairs : {X : Type 0} (R : X → X → Type 0) (xs : List X) (k : ℕ) (y : X) → AllPairs R xs → ((i : ℕ) (d : X) → i < length xs → i < k → R (get_or xs i d) y)
    → ((i : ℕ) (d : X) → i < length xs → k < i → R y (get_or xs i d)) → AllPairs R (set xs k y)
set_pairs R [] k y pairs before behind = pairs_none R
set_pairs R (x ∷ xs) zero y pairs before behind = AllPairs-cons R y xs (λ i d lt. behind (suc i) d (omega (arith, lt)) (omega arith)) (pairs_tail R x xs pairs)
set_pairs R (x ∷ xs) (suc k) y pairs before behind =
    AllPairs-cons R x (set xs k y) (All-set (R x) xs k y (before zero x (omega arith) (omega arith)) (pairs_head R x xs pairs))
    (set_pairs R xs k y (pairs_tail R x xs pairs) (λ i d lt at. before (suc i) d (omega (arith, lt)) (omega (arith, at))) (λ i d lt at. behind (suc i) d (omega (arith, lt)) (omega (arith, at))))

-- where a search among numbered elements finds none, none of them passes
pub none_found : {X : Type 0} (p : ℕ × X → Bool) (n : ℕ) (xs : List X) → find p (enumerate_from n xs) ≡ None → (i : ℕ) (d : X) → i < length xs → p (n + i, get_or xs i d) ≡ false
none_found p n [] none i d lt = absurd (omega (arith, lt))
none_found {X} p n (x ∷ xs) none i d lt = by (p (n, x)) refl (λ rest k below. none_found p (n + 1) xs rest k d below) none
  where
    by : (b : Bool) → p (n, x) ≡ b → (find p (enumerate_from (n + 1) xs) ≡ None → (k : ℕ) → k < length xs → p (n + 1 + k, get_or xs k d) ≡ false) → cond b (Some (n, x)) (find p (enumerate_from (n + 1) xs)) ≡ None → p (n + i, get_or (x ∷ xs) i d) ≡ false
    by true is more some = absurd (cc)
    by false is more rest = at i lt
      where
        at : (k : ℕ) → k < length (x ∷ xs) → p (n + k, get_or (x ∷ xs) k d) ≡ false
        at zero below = subst (λ (m : ℕ). p (m, x) ≡ false) (omega arith) is
        at (suc k) below = subst (λ (m : ℕ). p (m, get_or xs k d) ≡ false) (omega arith) (more rest k (omega (arith, below)))
