-- Two lists that are alike element by element.
use Rattle.std.proofs.Common.{◌≡◌, Bool, true, false, cond, List, [], ◌∷◌, map, filter, refl, ap₂}
use Rattle.std.specs.Prelude.{Option, Some, None, find, option_map, option_and_then, ◌||◌}
use Rattle.std.specs.List.{AllZip, list_any}
use Rattle.std.specs.Option.{option_map_or}

-- both are there and alike, or neither is there
abbrev pub BothThere : {X : Type 0} → (X → X → Type 0) → Option X → Option X → Type 0
BothThere R None None = Unit {0}
BothThere R None (Some y) = ⊥
BothThere R (Some x) None = ⊥
BothThere R (Some x) (Some y) = R x y

pub both_mapped : {X Y : Type 0} (R : X → X → Type 0) (f g : X → Y) → ((x y : X) → R x y → f x ≡ g y) → (o p : Option X) → BothThere R o p → option_map f o ≡ option_map g p
both_mapped R f g same None None both = refl
both_mapped R f g same None (Some y) both = absurd both
both_mapped R f g same (Some x) None both = absurd both
both_mapped {X} {Y} R f g same (Some x) (Some y) both = let one : f x ≡ g y = same x y both in cc

pub both_or : {X Y : Type 0} (R : X → X → Type 0) (f g : X → Y) (d : Y) → ((x y : X) → R x y → f x ≡ g y) → (o p : Option X) → BothThere R o p → option_map_or f o d ≡ option_map_or g p d
both_or R f g d same None None both = refl
both_or R f g d same None (Some y) both = absurd both
both_or R f g d same (Some x) None both = absurd both
both_or R f g d same (Some x) (Some y) both = same x y both

pub both_then : {X Y : Type 0} (R : X → X → Type 0) (f g : X → Option Y) → ((x y : X) → R x y → f x ≡ g y) → (o p : Option X) → BothThere R o p → option_and_then f o ≡ option_and_then g p
both_then R f g same None None both = refl
both_then R f g same None (Some y) both = absurd both
both_then R f g same (Some x) None both = absurd both
both_then R f g same (Some x) (Some y) both = same x y both

-- two tests that agree on what is alike
module _ {X : Type 0} (R : X → X → Type 0) (p q : X → Bool) (same : (x y : X) → R x y → p x ≡ q y) where
  pub found_zip : (xs ys : List X) → AllZip R xs ys → BothThere R (find p xs) (find q ys)
  found_zip [] [] alike = tt
  found_zip [] (y ∷ ys) alike = absurd alike
  found_zip (x ∷ xs) [] alike = absurd alike
  found_zip (x ∷ xs) (y ∷ ys) (here, more) = by (p x) (q y) (same x y here) (found_zip xs ys more)
    where
      by : (b d : Bool) → b ≡ d → BothThere R (find p xs) (find q ys) → BothThere R (cond b (Some x) (find p xs)) (cond d (Some y) (find q ys))
      by true true is rest = here
      by true false is rest = absurd (cc)
      by false true is rest = absurd (cc)
      by false false is rest = rest

  pub filter_zip : (xs ys : List X) → AllZip R xs ys → AllZip R (filter p xs) (filter q ys)
  filter_zip [] [] alike = tt
  filter_zip [] (y ∷ ys) alike = absurd alike
  filter_zip (x ∷ xs) [] alike = absurd alike
  filter_zip (x ∷ xs) (y ∷ ys) (here, more) = by (p x) (q y) (same x y here) (filter_zip xs ys more)
    where
      by : (b d : Bool) → b ≡ d → AllZip R (filter p xs) (filter q ys) → AllZip R (cond b (x ∷ filter p xs) (filter p xs)) (cond d (y ∷ filter q ys) (filter q ys))
      by true true is rest = (here, rest)
      by true false is rest = absurd (cc)
      by false true is rest = absurd (cc)
      by false false is rest = rest

  pub any_zip : (xs ys : List X) → AllZip R xs ys → list_any p xs ≡ list_any q ys
  any_zip [] [] alike = refl
  any_zip [] (y ∷ ys) alike = absurd alike
  any_zip (x ∷ xs) [] alike = absurd alike
  any_zip (x ∷ xs) (y ∷ ys) (here, more) = ap₂ (λ (b d : Bool). b || d) (same x y here) (any_zip xs ys more)

pub map_zip : {X : Type 0} (R S : X → X → Type 0) (f g : X → X) → ((x y : X) → R x y → S (f x) (g y)) → (xs ys : List X) → AllZip R xs ys → AllZip S (map f xs) (map g ys)
map_zip R S f g keeps [] [] alike = tt
map_zip R S f g keeps [] (y ∷ ys) alike = absurd alike
map_zip R S f g keeps (x ∷ xs) [] alike = absurd alike
map_zip R S f g keeps (x ∷ xs) (y ∷ ys) (here, more) = (keeps x y here, map_zip R S f g keeps xs ys more)
