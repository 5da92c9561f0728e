-- How numbers and texts are spelled as bytes.
use Rattle.std.specs.Prelude.{◌≡◌, ℕ, zero, suc, ◌+◌, ◌*◌, ◌/◌, ◌%◌, ◌<◌, ◌≤◌, ◌^◌, ℤ, List, [], ◌∷◌, ◌++◌, length, drop, nat_lt, if◌then◌else◌}
use Rattle.std.specs.Int.{w32, w64, to_be_bytes, cast_unsigned}
use Rattle.std.specs.List.{AllByRecursion, flat_map}

-- a number in groups of seven bits, the least first, in at most so many bytes: each byte but the last has 128 on top
unfoldable pub groups : ℕ → ℕ → List ℕ
groups zero n = []
groups (suc most) n = if nat_lt n 128 then n ∷ [] else (128 + n % 128) ∷ groups most (n / 128)

-- unsigned LEB128 in its shortest form, of a number below 2 ^ 64: ten bytes hold each of them
abbrev pub vint : ℕ → List ℕ
vint n = groups 10 n

-- The same, by cases on the bytes: one below 128 is the last and stands for itself; one from 128 on has the low seven
-- bits, and the bytes behind it stand for the rest, which isn't 0.
abbrev pub IsVint : List ℕ → ℕ → Type 0
IsVint [] n = ⊥
IsVint (b ∷ []) n = (b < 128) × (n ≡ b)
IsVint (b ∷ c ∷ bytes) n = (128 ≤ b) × (b < 256) × (high : ℕ) × (0 < high) × (n + 128 ≡ b + 128 * high) × IsVint (c ∷ bytes) high

-- eight bytes, most significant first, in two's complement
abbrev pub be8 : ℤ → List ℕ
be8 z = to_be_bytes w64 (cast_unsigned w64 z)

-- four bytes, most significant first
abbrev pub be4 : ℕ → List ℕ
be4 n = to_be_bytes w32 n

-- how many bytes, and these bytes
abbrev pub text : List ℕ → List ℕ
text bytes = vint (length bytes) ++ bytes

-- how many, and each after the other
abbrev pub counted : {A : Type 0} → (A → List ℕ) → List A → List ℕ
counted spell xs = vint (length xs) ++ flat_map spell xs

-- the lists that have a spelling
abbrev pub FitsList : {A : Type 0} → (A → Type 0) → List A → Type 0
FitsList fits xs = (length xs < 2 ^ 64) × AllByRecursion fits xs

-- the bytes begin with this spelling, which is so long
pub record Begins (bytes spelling : List ℕ) (len : ℕ) : Type 0 where
  pub long : len ≡ length spelling
  pub parts : bytes ≡ spelling ++ drop len bytes
