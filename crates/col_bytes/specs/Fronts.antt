-- Reading the front of some bytes: the value that it spells, and the bytes behind it.
use Rattle.std.specs.Prelude.{◌≡◌, ◌≤◌, ℕ, zero, suc, ◌+◌, ◌-◌, ◌*◌, ◌^◌, ℤ, List, [], ◌∷◌, length, take, drop, Option, Some, None, nat_lt, if◌then◌else◌, option_and_then}
use Rattle.std.specs.Int.{w32, w64, from_be_bytes, cast_signed}

-- the number with this first byte, and these groups behind it: not 0, since the form is the shortest, and below 2 ^ 64 in all
abbrev pub joined : ℕ → ℕ × List ℕ → Option (ℕ × List ℕ)
joined b high = if nat_lt 0 high.0 then (if nat_lt high.0 (2 ^ 57) then Some (b - 128 + 128 * high.0, high.1) else None) else None

-- a number in at most so many bytes
unfoldable pub groups_at : ℕ → List ℕ → Option (ℕ × List ℕ)
groups_at zero bytes = None
groups_at (suc most) [] = None
groups_at (suc most) (b ∷ rest) = if nat_lt b 128 then Some (b, rest) else option_and_then (joined b) (groups_at most rest)

abbrev pub vint_at : List ℕ → Option (ℕ × List ℕ)
vint_at bytes = groups_at 10 bytes

abbrev pub be8_at : List ℕ → Option (ℤ × List ℕ)
be8_at bytes = if nat_lt (length bytes) 8 then None else Some (cast_signed w64 (from_be_bytes w64 (take 8 bytes)), drop 8 bytes)

abbrev pub be4_at : List ℕ → Option (ℕ × List ℕ)
be4_at bytes = if nat_lt (length bytes) 4 then None else Some (from_be_bytes w32 (take 4 bytes), drop 4 bytes)

-- the bytes of a text, of which there are so many
abbrev pub cut : ℕ × List ℕ → Option (List ℕ × List ℕ)
cut n = if nat_lt (length n.1) n.0 then None else Some (take n.0 n.1, drop n.0 n.1)

unfoldable pub text_at : List ℕ → Option (List ℕ × List ℕ)
text_at bytes = option_and_then cut (vint_at bytes)

-- a value and how many bytes it takes are what reading the front gives
abbrev pub Reads : {A : Type 0} → List ℕ → Option (A × ℕ) → Option (A × List ℕ) → Type 0
Reads bytes None read = read ≡ None
Reads bytes (Some x) read = (x.1 ≤ length bytes) × (read ≡ Some (x.0, drop x.1 bytes))
