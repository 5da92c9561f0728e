-- What flags choose of a list, one element after the other.
use Rattle.std.proofs.Common.{◌≡◌, ℕ, zero, suc, ◌+◌, ◌<◌, ◌≤◌, ◌++◌, Bool, true, false, cond, List, [], ◌∷◌, length, take, get_or, refl, sym, ap, ◌∙◌, arith}
use Rattle.std.specs.Prelude.{replicate, slice_index_or}
use Rattle.std.specs.List.{All, AllZip}
use Rattle.std.proofs.lemmas.List.{take_all}
use Rattle.std.proofs.lemmas.List.Elements.{All-nil, All-cons, All-head, All-tail}
use Rattle.merge_rows.specs.Inputs.{chosen}

-- what stands at a place, where it is chosen
abbrev pub one_if : {X : Type 0} → Bool → X → List X
one_if b x = cond b (x ∷ []) []

more_suc : {X : Type 0} (i : ℕ) (flags : List Bool) (xs : List X) (x : X) → i < length xs → x ≡ get_or xs i x → chosen (take (suc i) flags) (take (suc i) xs) ≡ chosen (take i flags) (take i xs) ++ one_if (slice_index_or flags i false) x
more_suc i flags [] x lt is = absurd (omega (arith, lt))
more_suc zero [] (y ∷ xs) x lt is = refl
more_suc {X} zero (true ∷ flags) (y ∷ xs) x lt is = none (take 0 flags) (take 0 xs) refl ∙ ap (λ (z : X). z ∷ []) (sym is)
  where
    none : (fs : List Bool) (ys : List X) → ys ≡ [] → y ∷ chosen fs ys ≡ y ∷ []
    none [] ys e = refl
    none (f ∷ fs) [] e = refl
    none (f ∷ fs) (z ∷ ys) e = absurd (cc)
more_suc {X} zero (false ∷ flags) (y ∷ xs) x lt is = none (take 0 flags) (take 0 xs) refl
  where
    none : (fs : List Bool) (ys : List X) → ys ≡ [] → chosen fs ys ≡ []
    none [] ys e = refl
    none (f ∷ fs) [] e = refl
    none (f ∷ fs) (z ∷ ys) e = absurd (cc)
more_suc (suc i) [] (y ∷ xs) x lt is = refl
more_suc {X} (suc i) (true ∷ flags) (y ∷ xs) x lt is = ap (λ (zs : List X). y ∷ zs) (more_suc i flags xs x (omega (arith, lt)) is)
more_suc (suc i) (false ∷ flags) (y ∷ xs) x lt is = more_suc i flags xs x (omega (arith, lt)) is

pub chosen_more : {X : Type 0} (i : ℕ) (flags : List Bool) (xs : List X) (x : X) → i < length xs → x ≡ get_or xs i x → chosen (take (i + 1) flags) (take (i + 1) xs) ≡ chosen (take i flags) (take i xs) ++ one_if (slice_index_or flags i false) x
chosen_more i flags xs x lt is = let next : i + 1 ≡ suc i = omega arith in ap (λ (n : ℕ). chosen (take n flags) (take n xs)) next ∙ more_suc i flags xs x lt is

chosen_enough : {X : Type 0} (n : ℕ) (flags : List Bool) (xs : List X) → length xs ≤ n → chosen (take n flags) xs ≡ chosen flags xs
chosen_enough n [] xs le = ap (λ (fs : List Bool). chosen fs xs) (take_all n [] (omega arith))
chosen_enough {X} n (f ∷ flags) [] le = nothing (take n (f ∷ flags))
  where
    nothing : (fs : List Bool) → chosen {X = X} fs [] ≡ []
    nothing [] = refl
    nothing (g ∷ fs) = refl
chosen_enough zero (f ∷ flags) (x ∷ xs) le = absurd (omega (arith, le))
chosen_enough {X} (suc n) (true ∷ flags) (x ∷ xs) le = ap (λ (zs : List X). x ∷ zs) (chosen_enough n flags xs (omega (arith, le)))
chosen_enough (suc n) (false ∷ flags) (x ∷ xs) le = chosen_enough n flags xs (omega (arith, le))

pub chosen_all : {X : Type 0} (i : ℕ) (flags : List Bool) (xs : List X) → length xs ≤ i → chosen (take i flags) (take i xs) ≡ chosen flags xs
chosen_all i flags xs past = ap (chosen (take i flags)) (take_all i xs past) ∙ chosen_enough i flags xs past

pub zip_chosen : {X Y : Type 0} (R : X → Y → Type 0) (flags : List Bool) (xs : List X) (ys : List Y) → AllZip R xs ys → AllZip R (chosen flags xs) (chosen flags ys)
zip_chosen R [] xs ys all = tt
zip_chosen R (f ∷ flags) [] [] all = tt
zip_chosen R (f ∷ flags) [] (y ∷ ys) all = absurd all
zip_chosen R (f ∷ flags) (x ∷ xs) [] all = absurd all
zip_chosen R (true ∷ flags) (x ∷ xs) (y ∷ ys) all = (all.0, zip_chosen R flags xs ys all.1)
zip_chosen R (false ∷ flags) (x ∷ xs) (y ∷ ys) all = zip_chosen R flags xs ys all.1

pub both_chosen : {X Y : Type 0} (flags : List Bool) (xs : List X) (ys : List Y) → length xs ≡ length ys → length (chosen flags xs) ≡ length (chosen flags ys)
both_chosen [] xs ys same = refl
both_chosen (f ∷ flags) [] [] same = refl
both_chosen (f ∷ flags) [] (y ∷ ys) same = absurd (omega (arith, same))
both_chosen (f ∷ flags) (x ∷ xs) [] same = absurd (omega (arith, same))
both_chosen (true ∷ flags) (x ∷ xs) (y ∷ ys) same = let rest = both_chosen flags xs ys (omega (arith, same)) in omega (arith, rest)
both_chosen (false ∷ flags) (x ∷ xs) (y ∷ ys) same = both_chosen flags xs ys (omega (arith, same))

pub all_chosen : {X : Type 0} (P : X → Type 0) (flags : List Bool) (xs : List X) → All P xs → All P (chosen flags xs)
all_chosen P [] xs all = All-nil P
all_chosen P (f ∷ flags) [] all = All-nil P
all_chosen P (true ∷ flags) (x ∷ xs) all = All-cons P x (chosen flags xs) (All-head P x xs all) (all_chosen P flags xs (All-tail P x xs all))
all_chosen P (false ∷ flags) (x ∷ xs) all = all_chosen P flags xs (All-tail P x xs all)

-- flags that choose all
pub chosen_each : {X : Type 0} (n : ℕ) (xs : List X) → length xs ≤ n → chosen (replicate n true) xs ≡ xs
chosen_each zero [] le = refl
chosen_each zero (x ∷ xs) le = absurd (omega (arith, le))
chosen_each (suc n) [] le = refl
chosen_each {X} (suc n) (x ∷ xs) le = ap (λ (ys : List X). x ∷ ys) (chosen_each n xs (omega (arith, le)))

pub chosen_shown : {X : Type 0} (count : ℕ) (flags shown : List Bool) (xs : List X) → flags ≡ replicate count true → shown ≡ flags → count ≡ length xs → chosen shown xs ≡ xs
chosen_shown count flags shown xs are same many = ap (λ (fs : List Bool). chosen fs xs) (same ∙ are) ∙ chosen_each count xs (omega (arith, many))
