use Rattle.std.proofs.Common.{◌≡◌, ◌≤◌, ◌*◌, [], map, take}
use Rattle.std.specs.List.{fold}
use Rattle.block_codec.specs.Held.{number_value}
use Rattle.enc_dict.specs.Dict.{with_value}
use Rattle.enc_dict.proofs.Weights.{weight}
use Rattle.enc_dict.proofs.numbers.are_within.Given as goal

abbrev pub invariant-loop-n : goal.invariant-loop-n
invariant-loop-n l = record {
  words : map number_value l.words.items ≡ fold with_value [] (take l.n-index (map number_value l.numbers));
  weight : l.len ≡ weight (fold with_value [] (take l.n-index (map number_value l.numbers)));
  few : l.len ≤ 9 * l.n-index;
}
