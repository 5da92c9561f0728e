-- Numbers of which each is greater than the one before it.
use Rattle.std.specs.Prelude.{ℕ, ℤ, ◌<◌, ◌≤◌, ◌<ℤ◌, List, length}
use Rattle.row_keys.specs.Numbers.{number_at}

abbrev pub AreRising : List ℤ → Type 0
AreRising numbers = (i j : ℕ) → i < j → j < length numbers → number_at numbers i <ℤ number_at numbers j

abbrev pub IsAboveAll : List ℤ → ℤ → Type 0
IsAboveAll numbers n = (k : ℕ) → k < length numbers → number_at numbers k <ℤ n

-- a number stands, if it does, between two places
pub record IsSought (n : ℤ) (numbers : List ℤ) (low high : ℕ) : Type 0 where
  pub order : low ≤ high
  pub within : high ≤ length numbers
  pub less : (k : ℕ) → k < low → number_at numbers k <ℤ n
  pub greater : (k : ℕ) → high ≤ k → k < length numbers → n <ℤ number_at numbers k
