-- Keys that are numbers.
use Rattle.std.specs.Prelude.{◌≡◌, ◌-◌, ◌^◌, ℤ, negsuc, List, [], ◌∷◌, map}
use Rattle.block_codec.specs.Held.{number_value}
use Rattle.col_value.specs.declared.value.Value.{Value}
use Rattle.exec_group.specs.declared.held_keys.Form.{Form}
use Rattle.exec_group.specs.declared.held_keys.Form.TheVariants as form

-- -2^63, which stands for NULL
abbrev pub null_number : ℤ
null_number = negsuc (2 ^ 63 - 1)

-- the key of one column in which a number, or NULL, stands
abbrev pub number_key : ℤ → List Value
number_key n = number_value n ∷ []

abbrev pub keys_held : Form → List (List Value)
keys_held (form.Numbers numbers) = map number_key numbers
keys_held (form.Rows rows) = rows

-- no number stands for the value
abbrev pub IsNoNumber : Value → Type 0
IsNoNumber v = (n : ℤ) → number_value n ≡ v → ⊥

-- no number stands for the key
abbrev pub IsNoKey : List Value → Type 0
IsNoKey key = (n : ℤ) → number_key n ≡ key → ⊥
