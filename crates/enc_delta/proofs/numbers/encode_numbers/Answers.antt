use Rattle.std.proofs.Common.{◌≡◌, ℤ, subst, sym, ◌∙◌, to_z, of_z, w64, map, rules, FitsSigned}
use Rattle.std.specs.List.{All}
use Rattle.std.proofs.lemmas.Int.{to_z-of_z}
use Rattle.block_codec.specs.Held.{number_value}
use Rattle.enc_delta.specs.Above.{IsAbove}
use Rattle.enc_delta.specs.Delta.{base_of}
use Rattle.enc_delta.proofs.Least.{each_above}
use Rattle.enc_delta.proofs.numbers.encode_numbers.Goals as goal

pub put_deltas-requires-clause-above : goal.put_deltas-requires-clause-above
put_deltas-requires-clause-above c =
    let vs = map number_value c.args.numbers.now in
    let fits : FitsSigned w64 c.lane_base-base.result = search rules in
    let e : to_z w64 (of_z w64 c.lane_base-base.result) ≡ base_of vs = to_z-of_z w64 c.lane_base-base.result fits ∙ c.lane_base-base.ensures in
    subst (λ (b : ℤ). All (IsAbove b) vs) (sym e) (each_above vs c.requires)
