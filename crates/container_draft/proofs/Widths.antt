-- The order of rows of which one has no further values.
use Rattle.std.proofs.Common.{◌≡◌, ℕ, ◌+◌, ◌-◌, ◌<◌, ◌≤◌, min, true, false, nat_lt, ◌==◌, cond, List, [], ◌∷◌, length, drop, refl, sym, ap, subst, ◌∙◌, arith}
use Rattle.std.proofs.lemmas.Bool.Decides.{nat_tests}
use Rattle.std.proofs.lemmas.List.{length-drop}
use Rattle.std.specs.Ordering.{nat_cmp}
use Rattle.col_value.specs.Order.{row_cmp}
use Rattle.col_value.specs.declared.value.Value.{Value}

rest_order : (us vs : List Value) (a b i : ℕ) → length us + i ≡ a → length vs + i ≡ b → min a b ≤ i → nat_cmp a b ≡ row_cmp us vs
rest_order [] [] a b i p q le = let same : a ≡ b = omega (arith, p, q) in grind (arith, nat_tests, same)
rest_order [] (v ∷ vs) a b i p q le = let less : a < b = omega (arith, p, q) in grind (arith, nat_tests, less)
rest_order (u ∷ us) [] a b i p q le = let more : b < a = omega (arith, p, q) in grind (arith, nat_tests, more)
rest_order (u ∷ us) (v ∷ vs) a b i p q le = absurd (omega (arith, p, q, le))

pub widths_order : (xs ys : List Value) (a b end i : ℕ) → a ≡ length xs → b ≡ length ys → end ≡ min a b → i ≤ end → end ≤ i → nat_cmp a b ≡ row_cmp (drop i xs) (drop i ys)
widths_order xs ys a b end i long long_too is le ge =
    let p = length-drop i xs in
    let q = length-drop i ys in
    rest_order (drop i xs) (drop i ys) a b i (omega (arith, p, long, is, le, ge, long_too)) (omega (arith, q, long, long_too, is, le, ge)) (omega (arith, is, ge))
