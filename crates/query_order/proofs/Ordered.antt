-- Each list can be brought into order; and of an ordered list those up to some element stand at the front.
use Rattle.std.proofs.Common.{◌≡◌, ℕ, zero, suc, ◌<◌, ◌≤◌, min, Bool, true, false, cond, List, [], ◌∷◌, ◌++◌, length, get_or, take, All, AllPairs, count_by, IsPermutation, refl, ap, arith}
use Rattle.std.proofs.lemmas.List.{length-take, get_or-take}
use Rattle.std.proofs.lemmas.List.Elements.{All-nil, All-cons, All-head, All-tail, All-append, All-weaker}
use Rattle.std.proofs.lemmas.List.Kept.{AllPairs-cons}
use Rattle.std.proofs.lemmas.List.Sorted.{IsPermutation-refl, IsPermutation-sym, IsPermutation-trans, IsPermutation-cons, IsPermutation-middle, All-permutation}
use Rattle.std.proofs.lemmas.List.Sums.{count_by-le-length}
use Rattle.std.specs.Cmp.{IsStrictWeakOrder}
use Rattle.common_laws.proofs.BagLaws.{count_cons}

module _ {X : Type 0} (lt : X → X → Bool) where
  -- no later element is before an earlier one
  abbrev pub Rises : List X → Type 0
  Rises xs = AllPairs (λ x y. lt y x ≡ false) xs

  none_below : (x : X) (xs : List X) → Rises (x ∷ xs) → All (λ y. lt y x ≡ false) xs
  none_below x xs up k d inside = up 0 (suc k) d (omega arith) (omega arith)

  rest_rises : (x : X) (xs : List X) → Rises (x ∷ xs) → Rises xs
  rest_rises x xs up i j d below inside = up (suc i) (suc j) d (omega arith) (omega arith)

  rises_cons : (x : X) (xs : List X) → All (λ y. lt y x ≡ false) xs → Rises xs → Rises (x ∷ xs)
  rises_cons x xs h up = AllPairs-cons (λ a b. lt b a ≡ false) x xs h up

  pub rises_take : (n : ℕ) (xs : List X) → Rises xs → Rises (take n xs)
  rises_take n xs up i j d below inside =
      let long : length (take n xs) ≡ min n (length xs) = length-take n xs in
      rw (get_or-take n xs j d (omega arith), get_or-take n xs i d (omega arith)) (up i j d below (omega arith))

  pub rises_join : (xs ys : List X) → Rises xs → Rises ys → All (λ x. All (λ y. lt y x ≡ false) ys) xs → Rises (xs ++ ys)
  rises_join [] ys up vp h = vp
  rises_join (x ∷ xs) ys up vp h =
      rises_cons x (xs ++ ys) (All-append (λ y. lt y x ≡ false) xs ys (none_below x xs up) (All-head (λ z. All (λ y. lt y z ≡ false) ys) x xs h))
      (rises_join xs ys (rest_rises x xs up) vp (All-tail (λ z. All (λ y. lt y z ≡ false) ys) x xs h))

  -- x in its place among ordered elements
  abbrev placed : X → List X → List X
  placed x [] = x ∷ []
  placed x (y ∷ ys) = cond (lt y x) (y ∷ placed x ys) (x ∷ y ∷ ys)

  abbrev pub in_order : List X → List X
  in_order [] = []
  in_order (x ∷ xs) = placed x (in_order xs)

  chosen_same : (b : Bool) (x y : X) (ys zs : List X) → IsPermutation (x ∷ ys) zs → IsPermutation (x ∷ y ∷ ys) (cond b (y ∷ zs) (x ∷ y ∷ ys))
  chosen_same true x y ys zs same = IsPermutation-trans _ _ _ (IsPermutation-sym _ _ (IsPermutation-middle (y ∷ []) x ys)) (IsPermutation-cons y _ _ same)
  chosen_same false x y ys zs same = IsPermutation-refl _

  placed_same : (x : X) (ys : List X) → IsPermutation (x ∷ ys) (placed x ys)
  placed_same x [] = IsPermutation-refl _
  placed_same x (y ∷ ys) = chosen_same (lt y x) x y ys (placed x ys) (placed_same x ys)

  pub in_order_same : (xs : List X) → IsPermutation xs (in_order xs)
  in_order_same [] = IsPermutation-refl _
  in_order_same (x ∷ xs) = IsPermutation-trans _ _ _ (IsPermutation-cons x _ _ (in_order_same xs)) (placed_same x (in_order xs))

  module _ (o : IsStrictWeakOrder lt) where
    chosen_rises : (b : Bool) (x y : X) (ys zs : List X) → lt y x ≡ b → Rises (y ∷ ys) → IsPermutation (x ∷ ys) zs → Rises zs → Rises (cond b (y ∷ zs) (x ∷ y ∷ ys))
    chosen_rises true x y ys zs e up same vp =
        rises_cons y zs (All-permutation (λ z. lt z y ≡ false) (x ∷ ys) zs same (All-cons (λ z. lt z y ≡ false) x ys (o.one_way y x e) (none_below y ys up))) vp
    chosen_rises false x y ys zs e up same vp =
        rises_cons x (y ∷ ys) (All-cons (λ z. lt z x ≡ false) y ys e (All-weaker (λ z. lt z y ≡ false) (λ z. lt z x ≡ false) (λ z h. o.chain z y x h e) ys (none_below y ys up))) up

    placed_rises : (x : X) (ys : List X) → Rises ys → Rises (placed x ys)
    placed_rises x [] up = rises_cons x [] (All-nil (λ y. lt y x ≡ false)) up
    placed_rises x (y ∷ ys) up = chosen_rises (lt y x) x y ys (placed x ys) refl up (placed_same x ys) (placed_rises x ys (rest_rises y ys up))

    pub in_order_rises : (xs : List X) → Rises (in_order xs)
    in_order_rises [] = λ i j d below inside. absurd (omega arith)
    in_order_rises (x ∷ xs) = placed_rises x (in_order xs) (in_order_rises xs)

abbrev one_if : Bool → ℕ
one_if b = cond b 1 0

module _ {X : Type 0} (p : X → Bool) where
  -- those that pass stand at the front
  abbrev pub PassesFirst : List X → Type 0
  PassesFirst xs = AllPairs (λ x y. p x ≡ false → p y ≡ false) xs

  rest_passes_first : (x : X) (xs : List X) → PassesFirst (x ∷ xs) → PassesFirst xs
  rest_passes_first x xs h i j d below inside = h (suc i) (suc j) d (omega arith) (omega arith)

  none_passes : (xs : List X) → All (λ x. p x ≡ false) xs → count_by p xs ≡ 0
  none_passes [] h = refl
  none_passes (x ∷ xs) h =
      let here : one_if (p x) ≡ 0 = ap one_if (All-head (λ z. p z ≡ false) x xs h) in
      omega (arith, count_cons p x xs, none_passes xs (All-tail (λ z. p z ≡ false) x xs h))

  taken_step : (b : Bool) (n : ℕ) (x : X) (xs : List X) → p x ≡ b → PassesFirst (x ∷ xs) → suc n ≤ count_by p (x ∷ xs) → (n ≤ count_by p xs → n ≤ count_by p (take n xs)) → suc n ≤ count_by p (x ∷ take n xs)
  taken_step true n x xs e h many more =
      let here : one_if (p x) ≡ 1 = ap one_if e in
      let rest : n ≤ count_by p (take n xs) = more (omega (arith, count_cons p x xs)) in
      omega (arith, count_cons p x (take n xs))
  taken_step false n x xs e h many more =
      let here : one_if (p x) ≡ 0 = ap one_if e in
      let none : count_by p xs ≡ 0 = none_passes xs (λ k d inside. h 0 (suc k) d (omega arith) (omega arith) e) in
      absurd (omega (arith, count_cons p x xs))

  -- n that pass are among the first n
  pub taken_counts : (n : ℕ) (xs : List X) → PassesFirst xs → n ≤ count_by p xs → n ≤ count_by p (take n xs)
  taken_counts zero xs h many = omega arith
  taken_counts (suc n) [] h many = many
  taken_counts (suc n) (x ∷ xs) h many = taken_step (p x) n x xs refl h many (taken_counts n xs (rest_passes_first x xs h))

  place_step : (b : Bool) (j : ℕ) (x : X) (xs : List X) (d : X) → p x ≡ b → PassesFirst (x ∷ xs) → j < length xs → p (get_or xs j d) ≡ true → j < count_by p xs → suc j < count_by p (x ∷ xs)
  place_step true j x xs d e h inside passes more =
      let here : one_if (p x) ≡ 1 = ap one_if e in
      omega (arith, count_cons p x xs)
  place_step false j x xs d e h inside passes more = let fails : p (get_or xs j d) ≡ false = h 0 (suc j) d (omega arith) (omega arith) e in cc

  -- where the one at a place passes, those before it do too
  pub place_counts : (j : ℕ) (xs : List X) (d : X) → PassesFirst xs → j < length xs → p (get_or xs j d) ≡ true → j < count_by p xs
  place_counts j [] d h inside passes = absurd (omega arith)
  place_counts zero (x ∷ xs) d h inside passes =
      let here : one_if (p x) ≡ 1 = ap one_if passes in
      omega (arith, count_cons p x xs)
  place_counts (suc j) (x ∷ xs) d h inside passes =
      place_step (p x) j x xs d refl h (omega arith) passes (place_counts j xs d (rest_passes_first x xs h) (omega arith) passes)

  all_step : (b : Bool) (x : X) (xs : List X) → p x ≡ b → length (x ∷ xs) ≤ count_by p (x ∷ xs) → (length xs ≤ count_by p xs → All (λ z. p z ≡ true) xs) → All (λ z. p z ≡ true) (x ∷ xs)
  all_step true x xs e many more =
      let here : one_if (p x) ≡ 1 = ap one_if e in
      All-cons (λ z. p z ≡ true) x xs e (more (omega (arith, count_cons p x xs)))
  all_step false x xs e many more =
      let here : one_if (p x) ≡ 0 = ap one_if e in
      absurd (omega (arith, count_cons p x xs, count_by-le-length p xs))

  -- where as many pass as there are, all do
  pub all_counted : (xs : List X) → length xs ≤ count_by p xs → All (λ z. p z ≡ true) xs
  all_counted [] many = All-nil (λ z. p z ≡ true)
  all_counted (x ∷ xs) many = all_step (p x) x xs refl many (all_counted xs)
