-- Keys of which no two are the same, and a change at the place of one of them.
use Rattle.std.proofs.Common.{◌≡◌, ℕ, zero, suc, ◌<◌, ◌||◌, not, Bool, true, false, cond, if◌then◌else◌, List, [], ◌∷◌, length, get_or, map, filter, set, refl, sym, ap, ap₂, ◌∙◌, arith}
use Rattle.std.proofs.lemmas.Cmp.{tied_itself}
use Rattle.std.proofs.lemmas.List.Folds.{list_any_at}
use Rattle.std.specs.List.{list_any}
use Rattle.std.specs.Ordering.{is_eq}
use Rattle.col_value.specs.Laws.{row_exact, row_total, tie_told}
use Rattle.col_value.specs.Order.{row_cmp}
use Rattle.col_value.specs.declared.value.Value.{Value}
use Rattle.row_keys.specs.Keys.{AreApart, is_same_key}

pub same_equal : (a b : List Value) → is_same_key a b ≡ true → a ≡ b
same_equal a b e = row_exact a b (tie_told (row_cmp a b) e)

pub same_itself : (a : List Value) → is_same_key a a ≡ true
same_itself a = ap is_eq (tied_itself row_total a)

pub same_back : (a b : List Value) → is_same_key a b ≡ is_same_key b a
same_back a b =
    elim (is_same_key a b) as (λ s. is_same_key a b ≡ s → s ≡ is_same_key b a) [
      | true ↦ λ e. sym (ap (is_same_key b) (same_equal a b e) ∙ same_itself b)
      | false ↦ λ e. elim (is_same_key b a) as (λ t. is_same_key b a ≡ t → false ≡ t) [
        | true ↦ λ h. sym e ∙ ap (is_same_key a) (same_equal b a h) ∙ same_itself a
        | false ↦ λ h. refl
      ] refl
    ] refl

pub either_false : (a b : Bool) → (a || b) ≡ false → (a ≡ false) × (b ≡ false)
either_false true b e = cc
either_false false b e = (refl, e)

module _ {X : Type 0} where
  pub any_alike : (p q : X → Bool) → ((x : X) → p x ≡ q x) → (xs : List X) → list_any p xs ≡ list_any q xs
  any_alike p q h [] = refl
  any_alike p q h (x ∷ xs) = ap₂ (λ (a b : Bool). a || b) (h x) (any_alike p q h xs)

  -- what passes the one test passes the other: taking out what fails the other loses nothing
  pub any_filtered : (p q : X → Bool) → ((x : X) → q x ≡ false → p x ≡ false) → (xs : List X) → list_any p (filter q xs) ≡ list_any p xs
  any_filtered p q h [] = refl
  any_filtered p q h (x ∷ xs) =
      elim (q x) as (λ b. q x ≡ b → list_any p (cond b (x ∷ filter q xs) (filter q xs)) ≡ list_any p (x ∷ xs)) [
        | true ↦ λ e. ap (λ (b : Bool). p x || b) (any_filtered p q h xs)
        | false ↦ λ e. any_filtered p q h xs ∙ ap (λ (b : Bool). b || list_any p xs) (sym (h x e))
      ] refl

  pub none_filtered : (p q : X → Bool) → (xs : List X) → list_any p xs ≡ false → list_any p (filter q xs) ≡ false
  none_filtered p q [] e = refl
  none_filtered p q (x ∷ xs) e =
      let each = either_false (p x) (list_any p xs) e in
      elim (q x) as (λ b. list_any p (cond b (x ∷ filter q xs) (filter q xs)) ≡ false) [
        | true ↦ ap (λ (b : Bool). b || list_any p (filter q xs)) each.0 ∙ none_filtered p q xs each.1
        | false ↦ none_filtered p q xs each.1
      ]

  pub none_left : (p : X → Bool) → (xs : List X) → list_any p (filter (λ x. not (p x)) xs) ≡ false
  none_left p [] = refl
  none_left p (x ∷ xs) =
      elim (p x) as (λ b. p x ≡ b → list_any p (cond (not b) (x ∷ filter (λ y. not (p y)) xs) (filter (λ y. not (p y)) xs)) ≡ false) [
        | true ↦ λ e. none_left p xs
        | false ↦ λ e. ap (λ (b : Bool). b || list_any p (filter (λ y. not (p y)) xs)) e ∙ none_left p xs
      ] refl

-- a change at the place of a key, and a change wherever the key is this one
module _ {Y : Type 0} (key : List Value) (f g : List Value → Y) where
  abbrev pub changed : List Value → Y
  changed k = if is_same_key k key then g k else f k

  pub none_changed : (ks : List (List Value)) → list_any (λ k. is_same_key k key) ks ≡ false → map f ks ≡ map changed ks
  none_changed [] e = refl
  none_changed (k ∷ ks) e =
      let each = either_false (is_same_key k key) (list_any (λ o. is_same_key o key) ks) e in
      ap₂ (λ (y : Y) (ys : List Y). y ∷ ys) (ap (λ (b : Bool). if b then g k else f k) (sym each.0)) (none_changed ks each.1)

  pub one_changed : (ks : List (List Value)) (i : ℕ) → AreApart ks → i < length ks → is_same_key (get_or ks i []) key ≡ true → set (map f ks) i (g (get_or ks i [])) ≡ map changed ks
  one_changed [] i a h s = absurd (omega arith)
  one_changed (k ∷ ks) zero a h s =
      let same : k ≡ key = same_equal k key s in
      let others : list_any (λ o. is_same_key o key) ks ≡ false =
      any_alike (λ o. is_same_key o key) (is_same_key k) (λ o. same_back o key ∙ ap (λ (z : List Value). is_same_key z o) (sym same)) ks ∙ a.0 in
      ap₂ (λ (y : Y) (ys : List Y). y ∷ ys) (ap (λ (b : Bool). if b then g k else f k) (sym s)) (none_changed ks others)
  one_changed (k ∷ ks) (suc i) a h s =
      let inside : i < length ks = omega arith in
      let first : is_same_key k key ≡ false =
      elim (is_same_key k key) as (λ b. is_same_key k key ≡ b → b ≡ false) [
        | true ↦ λ e. sym (list_any_at (is_same_key k) ks i [] inside (ap (is_same_key k) (same_equal (get_or ks i []) key s) ∙ e)) ∙ a.0
        | false ↦ λ e. refl
      ] refl in
      ap₂ (λ (y : Y) (ys : List Y). y ∷ ys) (ap (λ (b : Bool). if b then g k else f k) (sym first)) (one_changed ks i a.1 inside s)
