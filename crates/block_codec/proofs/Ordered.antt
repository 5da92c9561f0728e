-- The order of the numbers and of the days of a lane is that of the values for which they stand.
use Rattle.std.proofs.Common.{◌≡◌, ℕ, zero, suc, ◌^◌, ◌-◌, Bool, true, false, cond, ℤ, pos, negsuc, ◌<◌, ◌≤ℤ◌, ◌<ℤ◌, FitsSigned, w64, refl, sym, ap, ap₂, ◌∙◌, arith}
use Rattle.std.specs.Ordering.{int_cmp, int_eq, nat_cmp, ordering_then}
use Rattle.std.specs.declared.cmp.Ordering.{Ordering}
use Rattle.std.specs.declared.cmp.Ordering.TheVariants.{Less, Equal, Greater}
use Rattle.std.proofs.lemmas.Bool.Decides.{Decides-int_eq, nat_tests}
use Rattle.std.proofs.lemmas.Int.{ints}
use Rattle.col_value.specs.Order.{value_cmp}
use Rattle.col_value.specs.declared.value.Value.TheVariants as value
use Rattle.block_codec.specs.Held.{day_value, number_value}

abbrev least : ℤ
least = negsuc (2 ^ 63 - 1)

at_least : (n : ℤ) → FitsSigned w64 n → least ≤ℤ n
at_least (pos n) fits = omega (arith, ints)
at_least (negsuc n) fits = omega (arith, ints, fits.sfits)

null_at : (n : ℤ) → int_eq n least ≡ true → number_value n ≡ value.Null
null_at n is = ap (λ (b : Bool). cond b value.Null (value.Int n)) is

number_at : (n : ℤ) → int_eq n least ≡ false → number_value n ≡ value.Int n
number_at n is = ap (λ (b : Bool). cond b value.Null (value.Int n)) is

is_least : (n : ℤ) → int_eq n least ≡ true → n ≡ least
is_least n is = (Decides-int_eq n least).0 is

not_least : (n : ℤ) → int_eq n least ≡ false → n ≡ least → ⊥
not_least n is same = let told : int_eq n least ≡ true = (Decides-int_eq n least).1 same in absurd cc

below : (a b : ℤ) → a ≡ least → least ≤ℤ b → (b ≡ least → ⊥) → a <ℤ b
below a b is le other = omega (arith, ints, is, le, other)

less_is : (a b : ℤ) → a <ℤ b → Less ≡ int_cmp a b
less_is a b lt = grind (arith, ints)

equal_is : (a b : ℤ) → a ≡ b → Equal ≡ int_cmp a b
equal_is a b same = grind (arith, ints)

greater_is : (a b : ℤ) → b <ℤ a → Greater ≡ int_cmp a b
greater_is a b lt = grind (arith, ints)

then_equal : (o : Ordering) → ordering_then o Equal ≡ o
then_equal Less = refl
then_equal Equal = refl
then_equal Greater = refl

pub lane_cmp : (a b : ℤ) → FitsSigned w64 a → FitsSigned w64 b → value_cmp (number_value a) (number_value b) ≡ int_cmp a b
lane_cmp a b fa fb = by (int_eq a least) (int_eq b least) refl refl
  where
    by : (s t : Bool) → int_eq a least ≡ s → int_eq b least ≡ t → value_cmp (number_value a) (number_value b) ≡ int_cmp a b
    by true true p q = ap₂ value_cmp (null_at a p) (null_at b q) ∙ equal_is a b (is_least a p ∙ sym (is_least b q))
    by true false p q = ap₂ value_cmp (null_at a p) (number_at b q) ∙ less_is a b (below a b (is_least a p) (at_least b fb) (not_least b q))
    by false true p q = ap₂ value_cmp (number_at a p) (null_at b q) ∙ greater_is a b (below b a (is_least b q) (at_least a fa) (not_least a p))
    by false false p q = ap₂ value_cmp (number_at a p) (number_at b q) ∙ then_equal (int_cmp a b)

nat_less : (a b : ℕ) → a < b → Less ≡ nat_cmp a b
nat_less a b lt = grind (arith, nat_tests)

nat_greater : (a b : ℕ) → b < a → Greater ≡ nat_cmp a b
nat_greater a b lt = grind (arith, nat_tests)

pub day_cmp : (a b : ℕ) → value_cmp (day_value a) (day_value b) ≡ nat_cmp a b
day_cmp zero zero = refl
day_cmp zero (suc b) = nat_less 0 (suc b) (omega arith)
day_cmp (suc a) zero = nat_greater (suc a) 0 (omega arith)
day_cmp (suc a) (suc b) = then_equal (nat_cmp (suc a) (suc b))
