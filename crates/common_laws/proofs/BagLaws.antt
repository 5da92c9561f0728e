-- The laws of bags.
use Rattle.std.proofs.Common.{◌≡◌, ◌+◌, ℕ, List, [], ◌∷◌, ◌++◌, length, Bool, true, false, cond, refl, sym, ap, ◌∙◌, arith}
use Rattle.std.specs.Prelude.{map, filter, count_by}
use Rattle.std.specs.List.Sorted.{IsPermutation}
use Rattle.std.proofs.lemmas.List.Sums.{sum_by-cons, sum_by-append}
use Rattle.std.proofs.lemmas.List.Sorted.{sum_by-IsPermutation}
use Rattle.common_laws.specs.Bags.{SameBag}

pub bag_refl : {X : Type 0} (xs : List X) → SameBag xs xs
bag_refl xs = record { counts = λ p. refl }

pub bag_sym : {X : Type 0} (xs ys : List X) → SameBag xs ys → SameBag ys xs
bag_sym xs ys same = record { counts = λ p. sym (same.counts p) }

pub bag_trans : {X : Type 0} (xs ys zs : List X) → SameBag xs ys → SameBag ys zs → SameBag xs zs
bag_trans xs ys zs first second = record { counts = λ p. first.counts p ∙ second.counts p }

-- lists that swaps turn into each other are one bag
pub bag_of_permutation : {X : Type 0} (xs ys : List X) → IsPermutation xs ys → SameBag xs ys
bag_of_permutation xs ys same = record { counts = λ p. sym (sum_by-IsPermutation (λ x. cond (p x) 1 0) xs ys same) }

-- how often a test holds, at a cons and at a join
pub count_cons : {X : Type 0} (p : X → Bool) (x : X) (xs : List X) → count_by p (x ∷ xs) ≡ cond (p x) 1 0 + count_by p xs
count_cons p x xs = sum_by-cons (λ x. cond (p x) 1 0) x xs

pub count_append : {X : Type 0} (p : X → Bool) (xs ys : List X) → count_by p (xs ++ ys) ≡ count_by p xs + count_by p ys
count_append p xs ys = sum_by-append (λ x. cond (p x) 1 0) xs ys

pub bag_append : {X : Type 0} (xs ys us vs : List X) → SameBag xs us → SameBag ys vs → SameBag (xs ++ ys) (us ++ vs)
bag_append xs ys us vs first second = record { counts = λ p. omega (arith, count_append p xs ys, count_append p us vs, first.counts p, second.counts p) }

-- what both have at the front may be taken away
pub bag_cancel : {X : Type 0} (zs xs ys : List X) → SameBag (zs ++ xs) (zs ++ ys) → SameBag xs ys
bag_cancel zs xs ys same = record { counts = λ p. omega (arith, count_append p zs xs, count_append p zs ys, same.counts p) }

count_map : {X Y : Type 0} (f : X → Y) (p : Y → Bool) (xs : List X) → count_by p (map f xs) ≡ count_by (λ x. p (f x)) xs
count_map f p [] = refl
count_map f p (x ∷ xs) = omega (arith, count_cons p (f x) (map f xs), count_cons (λ x. p (f x)) x xs, count_map f p xs)

pub bag_map : {X Y : Type 0} (f : X → Y) (xs ys : List X) → SameBag xs ys → SameBag (map f xs) (map f ys)
bag_map f xs ys same = record { counts = λ p. count_map f p xs ∙ same.counts (λ x. p (f x)) ∙ sym (count_map f p ys) }

count_kept : {X : Type 0} (p : X → Bool) (b : Bool) (x : X) (ys : List X) → count_by p (cond b (x ∷ ys) ys) ≡ cond (cond b (p x) false) 1 0 + count_by p ys
count_kept p true x ys = count_cons p x ys
count_kept p false x ys = omega arith

count_filter : {X : Type 0} (q p : X → Bool) (xs : List X) → count_by p (filter q xs) ≡ count_by (λ x. cond (q x) (p x) false) xs
count_filter q p [] = refl
count_filter q p (x ∷ xs) = omega (arith, count_kept p (q x) x (filter q xs), count_cons (λ x. cond (q x) (p x) false) x xs, count_filter q p xs)

pub bag_filter : {X : Type 0} (q : X → Bool) (xs ys : List X) → SameBag xs ys → SameBag (filter q xs) (filter q ys)
bag_filter q xs ys same = record { counts = λ p. count_filter q p xs ∙ same.counts (λ x. cond (q x) (p x) false) ∙ sym (count_filter q p ys) }

counted : {X : Type 0} (xs : List X) → count_by (λ x. true) xs ≡ length xs
counted [] = refl
counted (x ∷ xs) = count_cons (λ y. true) x xs ∙ ap (λ (n : ℕ). 1 + n) (counted xs) ∙ omega arith

-- a bag has one length
pub bag_length : {X : Type 0} (xs ys : List X) → SameBag xs ys → length xs ≡ length ys
bag_length xs ys same = sym (counted xs) ∙ same.counts (λ x. true) ∙ counted ys
