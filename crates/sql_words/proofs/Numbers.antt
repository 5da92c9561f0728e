-- The number that digits spell only grows with more of them.
use Rattle.std.proofs.Common.{◌≡◌, ℕ, suc, ◌+◌, ◌-◌, ◌*◌, ◌^◌, ◌≤◌, ◌<◌, List, [], ◌∷◌, length, get_or, drop, fold, drop-cons, arith, None}
use Rattle.std.proofs.lemmas.Bool.Decides.{nat_tests}
use Rattle.sql_words.specs.Bytes.{value_of}
use Rattle.sql_words.specs.Words.{number_of}

pub grows : (n : ℕ) (digits : List ℕ) → n ≤ fold (λ n d. 10 * n + (d - 48)) n digits
grows n [] = omega arith
grows n (d ∷ digits) = omega (arith, grows (10 * n + (d - 48)) digits)

-- the next digit alone
pub next_digit : (n : ℕ) (digits : List ℕ) (i : ℕ) → i < length digits → 10 * n + (get_or digits i 0 - 48) ≤ fold (λ n d. 10 * n + (d - 48)) n (drop i digits)
next_digit n digits i within = rw (drop-cons digits i 0) (grows (10 * n + (get_or digits i 0 - 48)) (drop (suc i) digits))

pub too_great : (digits : List ℕ) → 2 ^ 127 ≤ value_of digits → None ≡ number_of digits
unfolding number_of
too_great digits great = grind (arith, nat_tests)
