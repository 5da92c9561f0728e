use Rattle.std.proofs.Common.{◌≡◌, ◌≤◌, ◌*◌, length, map, take}
use Rattle.std.specs.List.{flat_map}
use Rattle.value_bytes.specs.Spelling.{spelling}
use Rattle.block_codec.specs.Held.{number_value}
use Rattle.block_codec.proofs.len.numbers_len.Given as goal

abbrev pub invariant-loop-n : goal.invariant-loop-n
invariant-loop-n l = record {
  exact : l.len ≡ length (flat_map spelling (map number_value (take l.n-index l.numbers)));
  few : l.len ≤ 9 * l.n-index;
}
