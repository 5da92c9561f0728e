-- Ranks of values, which stand as the values do.
use Rattle.std.specs.Prelude.{ℕ, zero, suc, ◌+◌, ◌*◌, ◌-◌, ◌%◌, ◌^◌, ◌&&◌, ◌==◌, ℤ, pos, negsuc, ◌+ℤ◌, ◌-ℤ◌, int_lt, nat_lt, min, if◌then◌else◌, Bool, true, false, List, [], ◌∷◌}
use Rattle.col_value.specs.declared.value.Value.{Value}
use Rattle.col_value.specs.declared.value.Value.TheVariants as value

-- the first byte of a text as a digit: 0 where there is none, else one more than the byte, or 255 where that is too great
abbrev pub digit : List ℕ → ℕ
digit [] = 0
digit (b ∷ bs) = if nat_lt b 254 then 1 + b else 255

-- what stands behind it; a byte that is too great stays
abbrev pub after : List ℕ → List ℕ
after [] = []
after (b ∷ bs) = if nat_lt b 254 then bs else b ∷ bs

-- the first digits of a text behind others, as a number of base 256
abbrev pub head_from : ℕ → ℕ → List ℕ → ℕ
head_from zero before t = before
head_from (suc n) before t = head_from n (before * 256 + digit t) (after t)

abbrev pub head : List ℕ → ℕ
head t = head_from 7 0 t

-- the nearest number from -1 - high to high
abbrev pub low : ℤ → ℤ
low high = negsuc 0 -ℤ high

abbrev pub within : ℤ → ℤ → ℤ
within high n = if int_lt n (low high) then low high else if int_lt high n then high else n

-- Where a value's rank is less than that of another, so is the value. Numbers are told as far as `high`, and texts where that is said.
abbrev pub rank_of : ℤ → Bool → Value → ℤ
rank_of high texts value.Null = low high -ℤ pos 3
rank_of high texts (value.Bool b) = low high -ℤ pos (if b then 1 else 2)
rank_of high texts (value.Int n) = within high n
rank_of high texts (value.Date d) = high +ℤ pos (1 + min d (2 ^ 22 - 1))
rank_of high texts (value.Text t) = high +ℤ pos (2 ^ 22 + 1 + (if texts then head t else 0))

-- no other value has its rank
abbrev pub is_exact : ℤ → Bool → Value → Bool
is_exact high texts value.Null = true
is_exact high texts (value.Bool b) = true
is_exact high texts (value.Int n) = int_lt (low high) n && int_lt n high
is_exact high texts (value.Date d) = nat_lt d (2 ^ 22 - 1)
is_exact high texts (value.Text t) = texts && (head t % 256 == 0)

-- of the first key, and of those behind it
abbrev pub far_rank : Value → ℤ
far_rank v = rank_of (pos (2 ^ 61)) true v

abbrev pub is_far : Value → Bool
is_far v = is_exact (pos (2 ^ 61)) true v

abbrev pub near_rank : Value → ℤ
near_rank v = rank_of (pos (2 ^ 30)) false v

abbrev pub is_near : Value → Bool
is_near v = is_exact (pos (2 ^ 30)) false v
