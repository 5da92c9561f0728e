-- The values of a block in memory: numbers, days, words with the places of the values among them, or the values themselves.
use Rattle.std.specs.Prelude.{◌<◌, ◌-◌, ◌^◌, ℕ, zero, suc, ℤ, negsuc, List, length, map, slice_index_or, if◌then◌else◌}
use Rattle.std.specs.List.{All}
use Rattle.std.specs.Ordering.{int_eq}
use Rattle.block_codec.specs.declared.block.Cell.{Cell}
use Rattle.block_codec.specs.declared.block.Cell.TheVariants as cell
use Rattle.block_codec.specs.declared.block.Lanes.{Lanes}
use Rattle.block_codec.specs.declared.block.Lanes.TheVariants as lanes
use Rattle.col_value.specs.declared.value.Value.{Value}
use Rattle.col_value.specs.declared.value.Value.TheVariants as value

-- -2^63, which is no number of a table and is less than each, stands for NULL
abbrev pub number_value : ℤ → Value
number_value n = if int_eq n (negsuc (2 ^ 63 - 1)) then value.Null else value.Int n

-- 0, which is no day and is before each, stands for NULL
abbrev pub day_value : ℕ → Value
day_value zero = value.Null
day_value (suc n) = value.Date (suc n)

-- the words at places
abbrev pub picked : List Value → List ℕ → List Value
picked words places = map (λ p. slice_index_or words p value.Null) places

abbrev pub held : Lanes → List Value
held (lanes.Each values) = values.items
held (lanes.Numbers numbers) = map number_value numbers.items
held (lanes.Days days) = map day_value days.items
held (lanes.Coded words places) = picked words.items places.items

-- each is a place of a word
abbrev pub ArePlaces : Lanes → Type 0
ArePlaces (lanes.Each values) = Unit {0}
ArePlaces (lanes.Numbers numbers) = Unit {0}
ArePlaces (lanes.Days days) = Unit {0}
ArePlaces (lanes.Coded words places) = All (λ p. p < length words.items) places.items

-- the value that is lent or made
abbrev pub cell_value : Cell → Value
cell_value (cell.Lent v) = v.now
cell_value (cell.Made v) = v
