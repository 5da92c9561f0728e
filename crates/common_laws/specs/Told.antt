-- Bytes that an object tells, where it tells them. Those in memory do; those over the machine's own files and streams do not.
use Rattle.std.specs.Prelude.{◌≡◌, ◌≤◌, ℕ, List, ◌++◌, length, take, Option, Some, None}

-- the bytes that are told grew by these; what isn't told stays untold
abbrev pub Appends : Option (List ℕ) → Option (List ℕ) → List ℕ → Type 0
Appends None None bytes = Unit {0}
Appends (Some old) (Some new) bytes = new ≡ old ++ bytes
Appends None (Some new) bytes = ⊥
Appends (Some old) None bytes = ⊥

-- they grew by a front of these
abbrev pub AppendsFront : Option (List ℕ) → Option (List ℕ) → List ℕ → Type 0
AppendsFront old new bytes = (n : ℕ) × (n ≤ length bytes) × Appends old new (take n bytes)
