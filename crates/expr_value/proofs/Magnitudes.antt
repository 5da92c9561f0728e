-- Magnitudes of sums and products, and of what the operators make.
use Rattle.std.proofs.Common.{◌≡◌, ℕ, ◌+◌, ◌*◌, ◌≤◌, ℤ, pos, negsuc, neg_ℤ, ◌+ℤ◌, ◌*ℤ◌, ◌≤ℤ◌, Bool, true, false, List, [], ◌∷◌, map, fold, Option, Some, None, cond, unsigned_abs, arith, refl, sym, ap₂, ◌∙◌}
use Rattle.std.proofs.lemmas.Int.{ints, unsigned_abs-mul}
use Rattle.std.proofs.lemmas.Simd.{map-map}
use Rattle.std.proofs.Math.Nat.{mul-le-mul}
use Rattle.col_value.specs.declared.wide.Wide.{Wide}
use Rattle.col_value.specs.declared.wide.Wide.TheVariants as wide
use Rattle.sql_bound.specs.Bounds.{magnitude, bound_of_value, total, product}
use Rattle.sql_bound.specs.Values.{number_in, number, truth, negated, of_both, sum_of, product_of}

abbrev pub size : Option ℤ → ℕ
size None = 0
size (Some n) = magnitude n

above : (z : ℤ) → z ≤ℤ pos (magnitude z)
above (pos n) = omega (arith, ints)
above (negsuc n) = omega (arith, ints)

below : (z : ℤ) → neg_ℤ (pos (magnitude z)) ≤ℤ z
below (pos n) = omega (arith, ints)
below (negsuc n) = omega (arith, ints)

between : (z : ℤ) (m : ℕ) → z ≤ℤ pos m → neg_ℤ (pos m) ≤ℤ z → magnitude z ≤ m
between (pos n) m p q = omega (arith, ints)
between (negsuc n) m p q = omega (arith, ints)

magnitude_sum : (a b : ℤ) → magnitude (a +ℤ b) ≤ magnitude a + magnitude b
magnitude_sum a b =
    between (a +ℤ b) (magnitude a + magnitude b) (omega (arith, ints, above a, above b)) (omega (arith, ints, below a, below b))

pub absolute : (z : ℤ) → magnitude z ≡ unsigned_abs z
absolute (pos n) = refl
absolute (negsuc n) = omega arith

magnitude_product : (a b : ℤ) → magnitude (a *ℤ b) ≡ magnitude a * magnitude b
magnitude_product a b =
    absolute (a *ℤ b) ∙ unsigned_abs-mul a b ∙ ap₂ (λ (m n : ℕ). m * n) (sym (absolute a)) (sym (absolute b))

magnitude_neg : (a : ℤ) → magnitude (neg_ℤ a) ≤ magnitude a
magnitude_neg a = between (neg_ℤ a) (magnitude a) (omega (arith, ints, below a)) (omega (arith, ints, above a))

-- values, and the numbers in them
pub bound_of_number : (o : Option ℤ) → bound_of_value (number o) ≡ size o
bound_of_number None = refl
bound_of_number (Some n) = refl

pub size_in : (w : Wide) → size (number_in w) ≡ bound_of_value w
size_in wide.Null = refl
size_in (wide.Bool b) = refl
size_in (wide.Int n) = refl
size_in (wide.Date d) = refl
size_in (wide.Text t) = refl

pub bound_of_truth : (o : Option Bool) → bound_of_value (truth o) ≡ 0
bound_of_truth None = refl
bound_of_truth (Some b) = refl

pub bound_of_compared : (same r : Bool) → bound_of_value (cond same (wide.Bool r) wide.Null) ≡ 0
bound_of_compared true r = refl
bound_of_compared false r = refl

pub bound_of_negated : (w : Wide) → bound_of_value (negated w) ≤ bound_of_value w
bound_of_negated wide.Null = omega arith
bound_of_negated (wide.Bool b) = omega arith
bound_of_negated (wide.Int n) = magnitude_neg n
bound_of_negated (wide.Date d) = omega arith
bound_of_negated (wide.Text t) = omega arith

size_sum : (a b : Option ℤ) → size (of_both ◌+ℤ◌ a b) ≤ size a + size b
size_sum None b = omega arith
size_sum (Some a) None = omega arith
size_sum (Some a) (Some b) = magnitude_sum a b

size_product : (a b : Option ℤ) → size (of_both ◌*ℤ◌ a b) ≤ size a * size b
size_product None b = omega arith
size_product (Some a) None = omega arith
size_product (Some a) (Some b) = omega (arith, magnitude_product a b)

-- the numbers of a list, each within its bound, added and multiplied
pub sum_within : {X : Type 0} (v : X → Wide) (b : X → ℕ) → ((x : X) → bound_of_value (v x) ≤ b x) → (acc : Option ℤ) (m : ℕ) → size acc ≤ m → (xs : List X) → size (fold (of_both ◌+ℤ◌) acc (map number_in (map v xs))) ≤ fold ◌+◌ m (map b xs)
sum_within v b h acc m p [] = p
sum_within v b h acc m p (x ∷ xs) =
    sum_within v b h (of_both ◌+ℤ◌ acc (number_in (v x))) (m + b x) (omega (arith, size_sum acc (number_in (v x)), size_in (v x), h x)) xs

step_within : (acc : Option ℤ) (m : ℕ) → size acc ≤ m → (w : Wide) (n : ℕ) → bound_of_value w ≤ n → size (of_both ◌*ℤ◌ acc (number_in w)) ≤ m * n
step_within acc m p w n q =
    let r : size (number_in w) ≤ n = omega (arith, size_in w) in
    let s : size acc * size (number_in w) ≤ m * n = mul-le-mul p r in
    omega (arith, size_product acc (number_in w))

pub product_within : {X : Type 0} (v : X → Wide) (b : X → ℕ) → ((x : X) → bound_of_value (v x) ≤ b x) → (acc : Option ℤ) (m : ℕ) → size acc ≤ m → (xs : List X) → size (fold (of_both ◌*ℤ◌) acc (map number_in (map v xs))) ≤ fold ◌*◌ m (map b xs)
product_within v b h acc m p [] = p
product_within v b h acc m p (x ∷ xs) =
    product_within v b h (of_both ◌*ℤ◌ acc (number_in (v x))) (m * b x) (step_within acc m p (v x) (b x) (h x)) xs

pub bound_of_sum : {X : Type 0} (v : X → Wide) (b : X → ℕ) → ((x : X) → bound_of_value (v x) ≤ b x) → (xs : List X) → bound_of_value (sum_of (map v xs)) ≤ total (map b xs)
bound_of_sum v b h xs =
    omega (arith, bound_of_number (fold (of_both ◌+ℤ◌) (Some (pos 0)) (map number_in (map v xs))), sum_within v b h (Some (pos 0)) 0 (omega arith) xs)

pub bound_of_product : {X : Type 0} (v : X → Wide) (b : X → ℕ) → ((x : X) → bound_of_value (v x) ≤ b x) → (xs : List X) → bound_of_value (product_of (map v xs)) ≤ product (map b xs)
bound_of_product v b h xs =
    omega (arith, bound_of_number (fold (of_both ◌*ℤ◌) (Some (pos 1)) (map number_in (map v xs))), product_within v b h (Some (pos 1)) 1 (omega arith) xs)

-- the same over a list in which each item comes with its bound
pub bound_of_each : {X : Type 0} (v : X → Wide) (b : X → ℕ) (ys : List ((x : X) × (bound_of_value (v x) ≤ b x))) → bound_of_value (sum_of (map v (map (λ y. y.0) ys))) ≤ total (map b (map (λ y. y.0) ys))
bound_of_each v b ys =
    rw (map-map v (λ y. y.0) ys, map-map b (λ y. y.0) ys) (bound_of_sum (λ y. v y.0) (λ y. b y.0) (λ y. y.1) ys)

pub bound_of_every : {X : Type 0} (v : X → Wide) (b : X → ℕ) (ys : List ((x : X) × (bound_of_value (v x) ≤ b x))) → bound_of_value (product_of (map v (map (λ y. y.0) ys))) ≤ product (map b (map (λ y. y.0) ys))
bound_of_every v b ys =
    rw (map-map v (λ y. y.0) ys, map-map b (λ y. y.0) ys) (bound_of_product (λ y. v y.0) (λ y. b y.0) (λ y. y.1) ys)
