-- Values for which numbers of a lane stand, in their order.
use Rattle.std.proofs.Common.{◌≡◌, ℕ, ◌+◌, ◌-◌, ◌<◌, ◌≤◌, ℤ, pos, false, FitsSigned, w64, List, length, map, get_or, slice_index_or, sym, ap, ◌∙◌, arith}
use Rattle.std.specs.Prelude.{int_lt, Bool, IfOk}
use Rattle.std.specs.declared.result.Result.{Result}
use Rattle.std.specs.declared.result.Result.TheVariants.{Ok, Err}
use Rattle.std.specs.declared.alloc.AllocError.{AllocError}
use Rattle.std.specs.List.{flat_map}
use Rattle.std.proofs.lemmas.List.{get_or-map, length-map}
use Rattle.std.specs.Ordering.{int_cmp, int_eq, is_eq, is_lt}
use Rattle.std.proofs.lemmas.Int.{ints}
use Rattle.block_codec.specs.Held.{number_value}
use Rattle.block_codec.proofs.Ordered.{lane_cmp}
use Rattle.value_bytes.specs.Spelling.{spelling}
use Rattle.enc_dict.specs.Dict.{less, same, distinct, dict}
use Rattle.enc_dict.proofs.Weights.{dict_least}

tied : (a b : ℤ) → is_eq (int_cmp a b) ≡ int_eq a b
tied a b = grind (arith, ints)

lower : (a b : ℤ) → is_lt (int_cmp a b) ≡ int_lt a b
lower a b = grind (arith, ints)

pub same_numbers : (a b : ℤ) → FitsSigned w64 a → FitsSigned w64 b → same (number_value a) (number_value b) ≡ int_eq a b
unfolding same
same_numbers a b fa fb = ap is_eq (lane_cmp a b fa fb) ∙ tied a b

pub less_numbers : (a b : ℤ) → FitsSigned w64 a → FitsSigned w64 b → less (number_value a) (number_value b) ≡ int_lt a b
unfolding less
less_numbers a b fa fb = ap is_lt (lane_cmp a b fa fb) ∙ lower a b

pub lane_at : (ns : List ℤ) (i : ℕ) → i < length ns → number_value (slice_index_or ns i (pos 0)) ≡ get_or (map number_value ns) i (number_value (slice_index_or ns i (pos 0)))
lane_at ns i lt = sym (get_or-map number_value ns i (pos 0) (number_value (slice_index_or ns i (pos 0))) lt)

pub within : (ns : List ℤ) (i : ℕ) → i < length ns → i < length (map number_value ns)
within ns i lt = omega (arith, lt, length-map ns number_value)

-- where the words alone have more bytes than a block may have behind its places, the block has as many as it may not have
pub told_more : (ns : List ℤ) (limit least : ℕ) → least ≡ length ns + 3 → least < limit → (r : Result Bool AllocError) → IfOk r (λ b. b ≡ false → limit - least - 1 < length (flat_map spelling (distinct (map number_value ns))))
    → IfOk r (λ b. b ≡ false → limit ≤ length (dict (map number_value ns)))
told_more ns limit least is lt (Ok b) told = λ no. omega (arith, is, lt, told no, dict_least (map number_value ns), length-map ns number_value)
told_more ns limit least is lt (Err e) told = tt
