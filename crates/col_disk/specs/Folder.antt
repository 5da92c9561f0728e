-- Which entries of a folder are files of a disk.
use Rattle.std.specs.Prelude.{◌≡◌, ◌<◌, ◌^◌, ℕ, List, Option, Some, None}
use Rattle.std.specs.Fmt.{decimal}

-- the text is the number in decimal: no sign, no leading zero, below 2^64
abbrev pub IsNumberOf : List ℕ → Option ℕ → Type 0
IsNumberOf text (Some n) = text ≡ decimal n
IsNumberOf text None = (n : ℕ) → n < 2 ^ 64 → text ≡ decimal n → ⊥
