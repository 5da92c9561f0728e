-- Small numbers that stand for what rows have at their places.
use Rattle.std.specs.Prelude.{◌≡◌, ℕ, suc, ◌+◌, ◌*◌, ◌<◌, ◌≤◌, List, length, get_or, position, Option, Some, None}
use Rattle.std.specs.List.{All}
use Rattle.std.specs.Option.{IfSome}
use Rattle.std.proofs.Common.{arith, inl, inr}
use Rattle.std.proofs.Math.Nat.{mul-le-mul_right}
use Rattle.std.proofs.lemmas.Bool.{cases_lt}
use Rattle.std.proofs.lemmas.List.{get_or_past}
use Rattle.col_value.specs.declared.value.Value.{Value}
use Rattle.sql_bound.specs.Outputs.{same_keys}

-- where two places have one code they have one of these
abbrev pub Tells : {X : Type 0} → (ℕ → ℕ) → (ℕ → X) → Type 0
Tells code of = (a b : ℕ) → code a ≡ code b → of a ≡ of b

-- the group that is noted for the code of a place is that of the key there
abbrev pub AreNoted : (ℕ → List Value) → (ℕ → ℕ) → List (Option ℕ) → List (List Value) → Type 0
AreNoted key code noted keys = (p : ℕ) → IfSome (get_or noted (code p) None) (λ g. position (λ k. same_keys k (key p)) keys ≡ Some g)

-- a code of a lane, or another one where the lane ends
pub lane_within : (codes : List ℕ) (other : ℕ) → All (λ c. c < other) codes → (p : ℕ) → get_or codes p other < other + 1
lane_within codes other within p = elim (cases_lt p (length codes)) [
  | inl inside ↦ let here : get_or codes p other < other = within p other inside in omega (arith, here)
  | inr past ↦ let is : get_or codes p other ≡ other = get_or_past codes p other past in omega (arith, is)
]

-- two codes as one number
pub pair_within : (a n b m w : ℕ) → w ≡ m → a < n → b < m → a * w + b < n * w
pair_within a n b m w is left right = let most : suc a * w ≤ n * w = mul-le-mul_right w left in omega (arith, is, most, right)
