-- Why a call may answer a fault: a count that each fault raises, up to 2^64 - 1, where it stays.
use Rattle.std.specs.Prelude.{ℕ, ◌+◌, ◌-◌, ◌^◌, ◌≤◌, min, Result, IsErrOf}

-- the count is greater now, or it stands at its greatest value
abbrev pub Rose : ℕ → ℕ → Type 0
Rose before now = min (before + 1) (2 ^ 64 - 1) ≤ now

-- the count never falls, and this fault is answered only where it rose
pub record HasCause {T E : Type 0} (fault : E) (before now : ℕ) (result : Result T E) : Type 0 where
  pub later : before ≤ now
  pub failed : IsErrOf result fault → Rose before now
