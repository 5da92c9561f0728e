use Rattle.std.proofs.Common.{◌≡◌, ◌≤◌, ◌+◌, ◌-◌, ◌*◌, ◌++◌, length, take}
use Rattle.std.specs.List.{flat_map}
use Rattle.std.specs.Vec.{vec_len, vec_capacity}
use Rattle.block_codec.specs.Held.{number_value}
use Rattle.enc_delta.specs.Delta.{delta_spelling}
use Rattle.enc_delta.proofs.numbers.put_deltas.Given as goal

abbrev pub invariant-loop-n : goal.invariant-loop-n
invariant-loop-n l = record {
  put : l.out.items ≡ l.fn.out.items ++ flat_map (λ n. delta_spelling l.base (number_value n)) (take l.n-index l.numbers);
  room : vec_len l.out + 10 * (length l.numbers - l.n-index) ≤ vec_capacity l.out;
}
