-- Lists without regard to order, by their sums.
use Rattle.std.proofs.Common.{◌≡◌, ℕ, ◌+◌, ◌++◌, ◌||◌, nat_lt, Bool, true, false, cond, List, [], ◌∷◌, length, map, filter, refl, sym, ap, ◌∙◌, arith, subst}
use Rattle.std.proofs.lemmas.Bool.Decides.{nat_tests}
use Rattle.std.proofs.lemmas.List.Sorted.{sum_by-IsPermutation, IsPermutation-cons, IsPermutation-middle, IsPermutation-refl, IsPermutation-sym, IsPermutation-trans}
use Rattle.std.proofs.lemmas.List.Sums.{sum_by-cons, sum_by-append}
use Rattle.std.specs.List.{sum_by, flat_map, list_any}
use Rattle.std.specs.List.Sorted.{IsPermutation}

-- each sum over the one list is the sum over the other
pub record Alike {X : Type 0} (xs ys : List X) : Type 0 where
  pub sums : (f : X → ℕ) → sum_by f xs ≡ sum_by f ys

pub alike_permuted : {X : Type 0} (xs ys : List X) → IsPermutation xs ys → Alike xs ys
alike_permuted xs ys p = record { sums = λ f. sym (sum_by-IsPermutation f xs ys p) }

pub sum_same : {X : Type 0} (f g : X → ℕ) → ((x : X) → f x ≡ g x) → (xs : List X) → sum_by f xs ≡ sum_by g xs
sum_same f g h [] = refl
sum_same f g h (x ∷ xs) = omega (arith, sum_by-cons f x xs, sum_by-cons g x xs, sum_same f g h xs, h x)

pub sum_zero : {X : Type 0} (f : X → ℕ) → ((x : X) → f x ≡ 0) → (xs : List X) → sum_by f xs ≡ 0
sum_zero f h [] = refl
sum_zero f h (x ∷ xs) = omega (arith, sum_by-cons f x xs, sum_zero f h xs, h x)

pub sum_split : {X : Type 0} (f g k : X → ℕ) → ((x : X) → f x ≡ g x + k x) → (xs : List X) → sum_by f xs ≡ sum_by g xs + sum_by k xs
sum_split f g k h [] = refl
sum_split f g k h (x ∷ xs) = omega (arith, sum_by-cons f x xs, sum_by-cons g x xs, sum_by-cons k x xs, sum_split f g k h xs, h x)

sum_map : {X Y : Type 0} (f : Y → ℕ) (g : X → Y) (xs : List X) → sum_by f (map g xs) ≡ sum_by (λ x. f (g x)) xs
sum_map f g [] = refl
sum_map {X} f g (x ∷ xs) = omega (arith, sum_by-cons f (g x) (map g xs), sum_by-cons (λ (z : X). f (g z)) x xs, sum_map f g xs)

pub alike_map : {X Y : Type 0} (g : X → Y) (xs ys : List X) → Alike xs ys → Alike (map g xs) (map g ys)
alike_map g xs ys p = record { sums = λ f. sum_map f g xs ∙ p.sums (λ x. f (g x)) ∙ sym (sum_map f g ys) }

pub sum_filter : {X : Type 0} (f : X → ℕ) (p : X → Bool) (xs : List X) → sum_by f (filter p xs) ≡ sum_by (λ x. cond (p x) (f x) 0) xs
sum_filter f p [] = refl
sum_filter {X} f p (x ∷ xs) =
    let rest : sum_by f (filter p xs) ≡ sum_by (λ (z : X). cond (p z) (f z) 0) xs = sum_filter f p xs in
    elim (p x) as (λ b. sum_by f (cond b (x ∷ filter p xs) (filter p xs)) ≡ cond b (f x) 0 + sum_by (λ (z : X). cond (p z) (f z) 0) xs) [
      | true ↦ omega (arith, sum_by-cons f x (filter p xs))
      | false ↦ omega arith
    ] ∙ sym (sum_by-cons (λ (z : X). cond (p z) (f z) 0) x xs)

pub alike_filter : {X : Type 0} (p : X → Bool) (xs ys : List X) → Alike xs ys → Alike (filter p xs) (filter p ys)
alike_filter p xs ys a = record { sums = λ f. sum_filter f p xs ∙ a.sums (λ x. cond (p x) (f x) 0) ∙ sym (sum_filter f p ys) }

sum_flat : {X Y : Type 0} (f : Y → ℕ) (g : X → List Y) (xs : List X) → sum_by f (flat_map g xs) ≡ sum_by (λ x. sum_by f (g x)) xs
sum_flat f g [] = refl
sum_flat {X} f g (x ∷ xs) = omega (arith, sum_by-append f (g x) (flat_map g xs), sum_by-cons (λ (z : X). sum_by f (g z)) x xs, sum_flat f g xs)

pub alike_flat : {X Y : Type 0} (g h : X → List Y) (xs ys : List X) → ((x : X) → Alike (g x) (h x)) → Alike xs ys → Alike (flat_map g xs) (flat_map h ys)
alike_flat g h xs ys each p = record {
  sums = λ f.
      sum_flat f g xs ∙ sum_same (λ x. sum_by f (g x)) (λ x. sum_by f (h x)) (λ x. (each x).sums f) xs ∙ p.sums (λ x. sum_by f (h x))
      ∙ sym (sum_flat f h ys);
}

length_sum : {X : Type 0} (xs : List X) → length xs ≡ sum_by (λ (x : X). 1) xs
length_sum [] = refl
length_sum {X} (x ∷ xs) = omega (arith, sum_by-cons (λ (z : X). 1) x xs, length_sum xs)

pub alike_length : {X : Type 0} (xs ys : List X) → Alike xs ys → length xs ≡ length ys
alike_length xs ys a = length_sum xs ∙ a.sums (λ x. 1) ∙ sym (length_sum ys)

-- a test that an element passes counts at least one
one_more : (b t : Bool) (n m : ℕ) → n ≡ cond b 1 0 + m → t ≡ nat_lt 0 m → (b || t) ≡ nat_lt 0 n
one_more true t n m e h = grind (arith, nat_tests)
one_more false t n m e h = let same : n ≡ m = omega arith in h ∙ ap (nat_lt 0) (sym same)

any_counted : {X : Type 0} (p : X → Bool) (xs : List X) → list_any p xs ≡ nat_lt 0 (sum_by (λ x. cond (p x) 1 0) xs)
any_counted p [] = refl
any_counted {X} p (x ∷ xs) =
    one_more (p x) (list_any p xs) (sum_by (λ (z : X). cond (p z) 1 0) (x ∷ xs)) (sum_by (λ (z : X). cond (p z) 1 0) xs)
    (sum_by-cons (λ (z : X). cond (p z) 1 0) x xs) (any_counted p xs)

pub any_alike : {X : Type 0} (p : X → Bool) (xs ys : List X) → Alike xs ys → list_any p xs ≡ list_any p ys
any_alike p xs ys a = any_counted p xs ∙ ap (nat_lt 0) (a.sums (λ x. cond (p x) 1 0)) ∙ sym (any_counted p ys)

-- where an element stands in a list
abbrev pub Place : {X : Type 0} → X → List X → Type 0
Place {X} x ys = (us : List X) × (vs : List X) × (ys ≡ us ++ x ∷ vs)

module _ {X : Type 0} (same : X → X → Bool) (exact : (a b : X) → same a b ≡ true → a ≡ b) (itself : (a : X) → same a a ≡ true) where
  pub place : (x : X) (ys : List X) → list_any (same x) ys ≡ true → Place x ys
  place x [] e = cc
  place x (y ∷ ys) e =
      elim (same x y) as (λ b. same x y ≡ b → (b || list_any (same x) ys) ≡ true → (us : List X) × (vs : List X) × (y ∷ ys ≡ us ++ x ∷ vs)) [
        | true ↦ λ h k. ([], ys, ap (λ (z : X). z ∷ ys) (sym (exact x y h)))
        | false ↦ λ h k. let p = place x ys k in (y ∷ p.0, p.1, ap (λ (l : List X). y ∷ l) p.2)
      ] refl e

  pub cancelled : (x : X) (xs us vs : List X) → Alike (x ∷ xs) (us ++ x ∷ vs) → Alike xs (us ++ vs)
  cancelled x xs us vs a = record {
    sums = λ f. omega (arith, a.sums f, sum_by-cons f x xs, sum_by-append f us (x ∷ vs), sum_by-cons f x vs, sum_by-append f us vs);
  }

  -- such lists are each other's permutation
  pub alike_permutes : (xs ys : List X) → Alike xs ys → IsPermutation xs ys
  alike_permutes [] [] a = IsPermutation-refl []
  alike_permutes [] (y ∷ ys) a = absurd (omega (arith, alike_length [] (y ∷ ys) a))
  alike_permutes (x ∷ xs) ys a =
      let found : list_any (same x) ys ≡ true = sym (any_alike (same x) (x ∷ xs) ys a) ∙ ap (λ b. b || list_any (same x) xs) (itself x) in
      let p = place x ys found in
      let rest = alike_permutes xs (p.0 ++ p.1) (cancelled x xs p.0 p.1 (subst (Alike (x ∷ xs)) p.2 a)) in
      subst (IsPermutation (x ∷ xs)) (sym p.2)
      (IsPermutation-trans (x ∷ xs) (x ∷ (p.0 ++ p.1)) (p.0 ++ x ∷ p.1) (IsPermutation-cons x xs (p.0 ++ p.1) rest) (IsPermutation-sym (p.0 ++ x ∷ p.1) (x ∷ (p.0 ++ p.1)) (IsPermutation-middle p.0 x p.1)))
