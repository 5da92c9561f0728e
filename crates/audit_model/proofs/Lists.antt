-- What holds of each element of joined lists, and of the first without it.
use Rattle.std.proofs.Common.{◌≡◌, ◌++◌, List, [], ◌∷◌, Bool, true, false, cond, refl, sym, ◌∙◌, subst, map}
use Rattle.std.specs.Prelude.{find, filter, Some, None}
use Rattle.std.specs.List.{All, flat_map}
use Rattle.std.proofs.lemmas.List.Elements.{All-nil, All-cons, All-head, All-tail, All-append}
use Rattle.audit_model.specs.First.{IsFirst}

pub all_left : {X : Type 0} (P : X → Type 0) (xs ys : List X) → All P (xs ++ ys) → All P xs
all_left P [] ys all = All-nil P
all_left P (x ∷ xs) ys all = All-cons P x xs (All-head P x (xs ++ ys) all) (all_left P xs ys (All-tail P x (xs ++ ys) all))

pub all_right : {X : Type 0} (P : X → Type 0) (xs ys : List X) → All P (xs ++ ys) → All P ys
all_right P [] ys all = all
all_right P (x ∷ xs) ys all = all_right P xs ys (All-tail P x (xs ++ ys) all)

pub all_flat : {X Y : Type 0} (P : Y → Type 0) (f : X → List Y) (xs : List X) → All (λ x. All P (f x)) xs → All P (flat_map f xs)
all_flat P f [] all = All-nil P
all_flat P f (x ∷ xs) all = All-append P (f x) (flat_map f xs) (All-head (λ y. All P (f y)) x xs all) (all_flat P f xs (All-tail (λ y. All P (f y)) x xs all))

pub all_parts : {X Y : Type 0} (P : Y → Type 0) (f : X → List Y) (xs : List X) → All P (flat_map f xs) → All (λ x. All P (f x)) xs
all_parts P f [] all = All-nil (λ y. All P (f y))
all_parts P f (x ∷ xs) all =
    All-cons (λ y. All P (f y)) x xs (all_left P (f x) (flat_map f xs) all) (all_parts P f xs (all_right P (f x) (flat_map f xs) all))

pub all_unmapped : {X Y : Type 0} (P : Y → Type 0) (f : X → Y) (xs : List X) → All P (map f xs) → All (λ x. P (f x)) xs
all_unmapped P f [] all = All-nil (λ x. P (f x))
all_unmapped P f (x ∷ xs) all = All-cons (λ y. P (f y)) x xs (All-head P (f x) (map f xs) all) (all_unmapped P f xs (All-tail P (f x) (map f xs) all))

-- where one lacks the property, not all have it
pub first_lacks : {X : Type 0} (P : X → Type 0) (xs : List X) (x : X) → IsFirst P xs x → All P xs → ⊥
first_lacks P xs x first all = first.bad (All-head P x first.after (all_right P first.before (x ∷ first.after) (subst (All P) first.is all)))

-- what is found among elements that have a property has it, and passes
pub found_has : {X : Type 0} (P : X → Type 0) (p : X → Bool) (xs : List X) (s : X) → find p xs ≡ Some s → All P xs → P s
found_has P p [] s found all = absurd (let never : None ≡ Some s = found in cc)
found_has P p (x ∷ xs) s found all = by (p x) found (λ is. found_has P p xs s is (All-tail P x xs all))
  where
    by : (b : Bool) → cond b (Some x) (find p xs) ≡ Some s → (find p xs ≡ Some s → P s) → P s
    by true is later = let same : x ≡ s = cc in subst P same (All-head P x xs all)
    by false is later = later is

pub found_passes : {X : Type 0} (p : X → Bool) (xs : List X) (s : X) → find p xs ≡ Some s → p s ≡ true
found_passes p [] s found = absurd (let never : None ≡ Some s = found in cc)
found_passes p (x ∷ xs) s found = by (p x) refl found (found_passes p xs s)
  where
    by : (b : Bool) → p x ≡ b → cond b (Some x) (find p xs) ≡ Some s → (find p xs ≡ Some s → p s ≡ true) → p s ≡ true
    by true passes is later = let same : x ≡ s = cc in subst (λ y. p y ≡ true) same passes
    by false passes is later = later is

-- what is kept by a test has what elements that pass have
pub all_kept : {X : Type 0} (P : X → Type 0) (p : X → Bool) (xs : List X) → All (λ x. p x ≡ true → P x) xs → All P (filter p xs)
all_kept P p [] all = All-nil P
all_kept P p (x ∷ xs) all = by (p x) refl (all_kept P p xs (All-tail (λ y. p y ≡ true → P y) x xs all))
  where
    by : (b : Bool) → p x ≡ b → All P (filter p xs) → All P (cond b (x ∷ filter p xs) (filter p xs))
    by true passes rest = All-cons P x (filter p xs) (All-head (λ y. p y ≡ true → P y) x xs all passes) rest
    by false passes rest = rest

pub kept_all : {X : Type 0} (P : X → Type 0) (p : X → Bool) (xs : List X) → All P (filter p xs) → All (λ x. p x ≡ true → P x) xs
kept_all P p [] all = All-nil (λ y. p y ≡ true → P y)
kept_all P p (x ∷ xs) all = by (p x) refl all (kept_all P p xs)
  where
    by : (b : Bool) → p x ≡ b → All P (cond b (x ∷ filter p xs) (filter p xs)) → (All P (filter p xs) → All (λ y. p y ≡ true → P y) xs) → All (λ y. p y ≡ true → P y) (x ∷ xs)
    by true passes here later =
        All-cons (λ y. p y ≡ true → P y) x xs (λ _. All-head P x (filter p xs) here) (later (All-tail P x (filter p xs) here))
    by false passes here later =
        All-cons (λ y. p y ≡ true → P y) x xs (λ yes. absurd (let never : false ≡ true = sym passes ∙ yes in cc)) (later here)
