-- Bounds of the values in a row's columns.
use Rattle.std.specs.Prelude.{◌&&◌, ◌||◌, Bool, true, false, List, slice_index_or}
use Rattle.std.specs.List.{list_all}
use Rattle.std.specs.Option.{option_map_or}
use Rattle.std.specs.Ordering.{is_le, is_lt}
use Rattle.col_value.specs.Order.{value_cmp}
use Rattle.col_value.specs.declared.value.Value.{Value}
use Rattle.col_value.specs.declared.value.Value.TheVariants as value
use Rattle.row_bounds.specs.declared.bound.Bound.{Bound}

-- a value stands from the least to the greatest one, as far as there are such
abbrev pub lies_in : Bound → Value → Bool
lies_in b v = option_map_or (λ least. is_le (value_cmp least v)) b.least true && option_map_or (λ greatest. is_le (value_cmp v greatest)) b.greatest true

-- so does each value of a row in the bound of its column
abbrev pub within : List Bound → List Value → Bool
within bounds row = list_all (λ b. lies_in b (slice_index_or row b.column value.Null)) bounds

-- the bound begins behind the greatest of some values, or ends before the least
abbrev pub misses : Bound → Value → Value → Bool
misses b least greatest = option_map_or (λ begin. is_lt (value_cmp greatest begin)) b.least false || option_map_or (λ end. is_lt (value_cmp end least)) b.greatest false
