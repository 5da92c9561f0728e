-- Fronts and rests of lists.
use Rattle.std.proofs.Common.{◌≡◌, ℕ, ◌-◌, List, length, take, drop, arith, take_all, length-drop}

-- the slice from `i` to the end, as a range of slices is seen, is the rest from `i` on
pub rest_from : {X : Type 0} (xs : List X) (i : ℕ) → take (length xs - i) (drop i xs) ≡ drop i xs
rest_from xs i = take_all (length xs - i) (drop i xs) (omega (arith, length-drop i xs))
