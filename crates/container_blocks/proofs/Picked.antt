-- What holds of each word holds of each value of a block.
use Rattle.std.proofs.Common.{◌≡◌, ◌<◌, ℕ, ℤ, List, length, get_or, map, subst}
use Rattle.std.specs.List.{All}
use Rattle.std.proofs.lemmas.List.Elements.{All-map, All-get_or}
use Rattle.col_value.specs.declared.value.Value.{Value}
use Rattle.col_value.specs.declared.value.Value.TheVariants as value
use Rattle.block_codec.specs.Held.{number_value, picked}

pub all_picked : (P : Value → Type 0) (words : List Value) (places : List ℕ) (values : List Value) → picked words places ≡ values → All (λ p. p < length words) places → All P words → All P values
all_picked P words places values same within all =
    subst (All P) same (All-map P (λ p. get_or words p value.Null) places (λ k d lt. All-get_or P words (get_or places k d) value.Null (within k d lt) all))

pub all_numbers : (P : Value → Type 0) (numbers : List ℤ) (values : List Value) → map number_value numbers ≡ values → All (λ n. P (number_value n)) numbers → All P values
all_numbers P numbers values same all = subst (All P) same (All-map P number_value numbers all)
