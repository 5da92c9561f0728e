-- The values for which numbers of a lane stand, from a base on.
use Rattle.std.proofs.Common.{◌≡◌, ℕ, ◌<◌, ℤ, pos, ◌≤◌, List, length, map, take, slice_index_or, sym, ap, ◌∙◌, subst, arith}
use Rattle.std.specs.List.{All, flat_map}
use Rattle.std.proofs.lemmas.List.{get_or-map, length-map, take_all}
use Rattle.std.proofs.lemmas.List.Folds.{flat_map-map}
use Rattle.col_value.specs.declared.value.Value.TheVariants as value
use Rattle.block_codec.specs.Held.{number_value}
use Rattle.enc_delta.specs.Above.{IsAbove}
use Rattle.enc_delta.specs.Delta.{delta_spelling}

pub above_at : (b : ℤ) (ns : List ℤ) (i : ℕ) → i < length ns → All (IsAbove b) (map number_value ns) → IsAbove b (number_value (slice_index_or ns i (pos 0)))
above_at b ns i lt all = subst (IsAbove b) (get_or-map number_value ns i (pos 0) value.Null lt) (all i value.Null (omega (arith, lt, length-map ns number_value)))

pub all_deltas : (b : ℤ) (ns : List ℤ) (i : ℕ) → length ns ≤ i → flat_map (λ n. delta_spelling b (number_value n)) (take i ns) ≡ flat_map (delta_spelling b) (map number_value ns)
all_deltas b ns i le = ap (flat_map (λ n. delta_spelling b (number_value n))) (take_all i ns le) ∙ sym (flat_map-map (delta_spelling b) number_value ns)
