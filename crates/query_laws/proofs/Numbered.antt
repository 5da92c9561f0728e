-- Elements of a list, each with how many like it stand before it: the same for every order of the list.
use Rattle.std.proofs.Common.{◌≡◌, ℕ, ◌+◌, ◌++◌, ◌||◌, Bool, true, false, cond, List, [], ◌∷◌, refl, sym, ap, ap₂, ◌∙◌, arith, subst}
use Rattle.std.proofs.lemmas.List.Sums.{sum_by-cons, sum_by-append}
use Rattle.std.specs.List.{sum_by, count_by, list_any}
use Rattle.query_laws.proofs.Alike.{Alike, alike_length, any_alike, cancelled, place}

abbrev one_if : Bool → ℕ
one_if b = cond b 1 0

pub counts_cons : {X : Type 0} (p : X → Bool) (x : X) (xs : List X) → count_by p (x ∷ xs) ≡ cond (p x) 1 0 + count_by p xs
counts_cons p x xs = sum_by-cons (λ z. cond (p z) 1 0) x xs

pub counts_more : {X : Type 0} (p : X → Bool) (xs : List X) (x : X) → count_by p (xs ++ x ∷ []) ≡ count_by p xs + cond (p x) 1 0
counts_more p xs x = omega (arith, sum_by-append (λ z. cond (p z) 1 0) xs (x ∷ []), counts_cons p x [])

module _ {X : Type 0} (same : X → X → Bool) (exact : (a b : X) → same a b ≡ true → a ≡ b) (itself : (a : X) → same a a ≡ true) where
  -- behind some elements
  abbrev pub numbered : List X → List X → List (X × ℕ)
  numbered before [] = []
  numbered before (x ∷ xs) = (x, count_by (same x) before) ∷ numbered (before ++ x ∷ []) xs

  CountAlike : List X → List X → Type 0
  CountAlike e f = (z : X) → count_by (same z) e ≡ count_by (same z) f

  alike_numbered : (e f xs : List X) → CountAlike e f → numbered e xs ≡ numbered f xs
  unfolding CountAlike
  alike_numbered e f [] h = refl
  alike_numbered e f (x ∷ xs) h =
      ap₂ (λ (n : ℕ) (rest : List (X × ℕ)). (x, n) ∷ rest) (h x)
      (alike_numbered (e ++ x ∷ []) (f ++ x ∷ []) xs (λ z. omega (arith, counts_more (same z) e x, counts_more (same z) f x, h z)))

  other_way : (x u : X) → same x u ≡ false → same u x ≡ false
  other_way x u e =
      elim (same u x) as (λ b. same u x ≡ b → b ≡ false) [
        | true ↦ λ h. let back : same x u ≡ true = ap (same x) (exact u x h) ∙ itself x in sym back ∙ e
        | false ↦ λ h. refl
      ] refl

  swapped : (f : X × ℕ → ℕ) (e : List X) (x u : X) (rest : List X) → sum_by f (numbered e (u ∷ (x ∷ rest))) ≡ sum_by f (numbered e (x ∷ (u ∷ rest)))
  unfolding CountAlike
  swapped f e x u rest =
      elim (same x u) as (λ b. same x u ≡ b → sum_by f (numbered e (u ∷ (x ∷ rest))) ≡ sum_by f (numbered e (x ∷ (u ∷ rest)))) [
        | true ↦ λ h. ap₂ (λ (a b : X). sum_by f (numbered e (a ∷ (b ∷ rest)))) (sym (exact x u h)) (exact x u h)
        | false ↦ λ h.
            let eu = e ++ u ∷ [] in
            let ex = e ++ x ∷ [] in
            let x_behind : count_by (same x) eu ≡ count_by (same x) e = let c = counts_more (same x) e u in let z = ap one_if h in omega arith in
            let u_behind : count_by (same u) ex ≡ count_by (same u) e = let c = counts_more (same u) e x in let z = ap one_if (other_way x u h) in omega arith in
            let tails : numbered (eu ++ x ∷ []) rest ≡ numbered (ex ++ u ∷ []) rest =
            alike_numbered (eu ++ x ∷ []) (ex ++ u ∷ []) rest
            (λ z. omega (arith, counts_more (same z) eu x, counts_more (same z) e u, counts_more (same z) ex u, counts_more (same z) e x)) in
            let a = sum_by-cons f (u, count_by (same u) e) ((x, count_by (same x) eu) ∷ numbered (eu ++ x ∷ []) rest) in
            let b = sum_by-cons f (x, count_by (same x) eu) (numbered (eu ++ x ∷ []) rest) in
            let c = sum_by-cons f (x, count_by (same x) e) ((u, count_by (same u) ex) ∷ numbered (ex ++ u ∷ []) rest) in
            let d = sum_by-cons f (u, count_by (same u) ex) (numbered (ex ++ u ∷ []) rest) in
            let g = ap (λ (n : ℕ). f (x, n)) x_behind in
            let k = ap (λ (n : ℕ). f (u, n)) u_behind in
            let t = ap (sum_by f) tails in
            omega arith
      ] refl

  -- an element moved to the front
  fronted : (f : X × ℕ → ℕ) (e : List X) (x : X) (us vs : List X) → sum_by f (numbered e (us ++ (x ∷ vs))) ≡ sum_by f (numbered e (x ∷ (us ++ vs)))
  fronted f e x [] vs = refl
  fronted f e x (u ∷ us) vs =
      let a = sum_by-cons f (u, count_by (same u) e) (numbered (e ++ u ∷ []) (us ++ (x ∷ vs))) in
      let b = sum_by-cons f (u, count_by (same u) e) (numbered (e ++ u ∷ []) (x ∷ (us ++ vs))) in
      let c = fronted f (e ++ u ∷ []) x us vs in
      let d : sum_by f (numbered e (u ∷ (us ++ (x ∷ vs)))) ≡ sum_by f (numbered e (u ∷ (x ∷ (us ++ vs)))) = omega arith in
      d ∙ swapped f e x u (us ++ vs)

  numbered_sums : (f : X × ℕ → ℕ) (e xs ys : List X) → Alike xs ys → sum_by f (numbered e xs) ≡ sum_by f (numbered e ys)
  numbered_sums f e [] [] a = refl
  numbered_sums f e [] (y ∷ ys) a = absurd (omega (arith, alike_length [] (y ∷ ys) a))
  numbered_sums f e (x ∷ xs) ys a =
      let found : list_any (same x) ys ≡ true = sym (any_alike (same x) (x ∷ xs) ys a) ∙ ap (λ b. b || list_any (same x) xs) (itself x) in
      let p = place same exact itself x ys found in
      let rest = numbered_sums f (e ++ x ∷ []) xs (p.0 ++ p.1) (cancelled same exact itself x xs p.0 p.1 (subst (Alike (x ∷ xs)) p.2 a)) in
      let head = sum_by-cons f (x, count_by (same x) e) (numbered (e ++ x ∷ []) xs) in
      let other = sum_by-cons f (x, count_by (same x) e) (numbered (e ++ x ∷ []) (p.0 ++ p.1)) in
      let moved = fronted f e x p.0 p.1 in
      let whole = ap (λ (zs : List X). sum_by f (numbered e zs)) p.2 in
      omega arith

  pub numbered_alike : (xs ys : List X) → Alike xs ys → Alike (numbered [] xs) (numbered [] ys)
  numbered_alike xs ys a = record { sums = λ f. numbered_sums f [] xs ys a }
