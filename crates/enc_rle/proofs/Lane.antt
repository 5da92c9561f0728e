-- Runs of the values for which numbers of a lane stand.
use Rattle.std.proofs.Common.{◌≡◌, ℕ, ◌<◌, ℤ, pos, FitsSigned, w64, List, length, map, get_or, slice_index_or, drop, [], ◌≤◌, sym, ap, ◌∙◌, arith}
use Rattle.std.specs.Ordering.{int_cmp, int_eq, is_eq}
use Rattle.std.proofs.lemmas.Int.{ints}
use Rattle.std.proofs.lemmas.List.{get_or-map, length-map}
use Rattle.col_value.specs.declared.value.Value.{Value}
use Rattle.block_codec.specs.Held.{number_value}
use Rattle.block_codec.proofs.Ordered.{lane_cmp}
use Rattle.enc_rle.specs.Rle.{same}
use Rattle.enc_rle.proofs.Writing.{nothing_left}

tied : (a b : ℤ) → is_eq (int_cmp a b) ≡ int_eq a b
tied a b = grind (arith, ints)

pub same_numbers : (a b : ℤ) → FitsSigned w64 a → FitsSigned w64 b → same (number_value a) (number_value b) ≡ int_eq a b
unfolding same
same_numbers a b fa fb = ap is_eq (lane_cmp a b fa fb) ∙ tied a b

pub lane_at : (ns : List ℤ) (i : ℕ) → i < length ns → number_value (slice_index_or ns i (pos 0)) ≡ get_or (map number_value ns) i (number_value (slice_index_or ns i (pos 0)))
lane_at ns i lt = sym (get_or-map number_value ns i (pos 0) (number_value (slice_index_or ns i (pos 0))) lt)

pub within : (ns : List ℤ) (i : ℕ) → i < length ns → i < length (map number_value ns)
within ns i lt = omega (arith, lt, length-map ns number_value)

pub lane_done : (ns : List ℤ) (i : ℕ) → length ns ≤ i → drop i (map number_value ns) ≡ []
lane_done ns i le = nothing_left (map number_value ns) i (omega (arith, le, length-map ns number_value))
