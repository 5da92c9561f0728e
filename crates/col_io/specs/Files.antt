-- What a read answers, by the bytes that the name has.
use Rattle.std.specs.Prelude.{◌≡◌, ◌≤◌, ◌<◌, ℕ, List, length, Option, Some, None, vec_len}
use Rattle.col_io.specs.declared.reading.Got.{Got}
use Rattle.col_io.specs.declared.reading.Got.TheVariants.{Absent, Whole, TooLong}

-- a read of at most `max` bytes, where the name has these bytes or nothing has it
abbrev pub Finds : Option (List ℕ) → ℕ → Got → Type 0
Finds None max Absent = Unit {0}
Finds None max (Whole bytes) = ⊥
Finds None max TooLong = ⊥
Finds (Some held) max Absent = ⊥
Finds (Some held) max (Whole bytes) = (bytes.items ≡ held) × (length held ≤ max)
Finds (Some held) max TooLong = max < length held

-- whatever the name has, no more than `max` bytes come back
abbrev pub HasAtMost : ℕ → Got → Type 0
HasAtMost max Absent = Unit {0}
HasAtMost max (Whole bytes) = vec_len bytes ≤ max
HasAtMost max TooLong = Unit {0}

-- what a map that may be told has at a name
abbrev pub bytes_at : Option (List ℕ → Option (List ℕ)) → List ℕ → Option (Option (List ℕ))
bytes_at None name = None
bytes_at (Some map) name = Some (map name)
