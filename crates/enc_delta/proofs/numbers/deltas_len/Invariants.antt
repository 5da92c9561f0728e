use Rattle.std.proofs.Common.{◌≡◌, ◌≤◌, ◌*◌, length, take}
use Rattle.std.specs.List.{flat_map}
use Rattle.block_codec.specs.Held.{number_value}
use Rattle.enc_delta.specs.Delta.{delta_spelling}
use Rattle.enc_delta.proofs.numbers.deltas_len.Given as goal

abbrev pub invariant-loop-n : goal.invariant-loop-n
invariant-loop-n l = record {
  exact : l.len ≡ length (flat_map (λ n. delta_spelling l.base (number_value n)) (take l.n-index l.numbers));
  few : l.len ≤ 10 * l.n-index;
}
