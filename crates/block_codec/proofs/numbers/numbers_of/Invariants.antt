use Rattle.std.proofs.Common.{◌≡◌, ◌≤◌, ◌+◌, ◌-◌, length, map, take}
use Rattle.std.specs.Vec.{vec_capacity, vec_len}
use Rattle.block_codec.specs.Held.{number_value}
use Rattle.block_codec.proofs.numbers.numbers_of.Given as goal

abbrev pub invariant-loop-value : goal.invariant-loop-value
invariant-loop-value l = record {
  lane : map number_value l.numbers.items ≡ take l.value-index l.values;
  room : vec_len l.numbers + (length l.values - l.value-index) ≤ vec_capacity l.numbers;
}
