use Rattle.std.proofs.Common.{◌≡◌, ℕ, ◌-◌, ◌<◌, ◌≤◌, true, false, length, map, get_or}
use Rattle.col_value.specs.declared.value.Value.{Value}
use Rattle.block_codec.specs.Held.{number_value}
use Rattle.enc_dict.specs.Dict.{less}
use Rattle.enc_dict.proofs.numbers.place.Given as goal

abbrev pub invariant-loop-low : goal.invariant-loop-low
invariant-loop-low l = record {
  order : l.low ≤ l.high;
  within : l.high ≤ length l.words;
  below : (j : ℕ) (d : Value) → j < l.low → less (get_or (map number_value l.words) j d) (number_value l.n) ≡ true;
  above : (d : Value) → l.high < length l.words → less (get_or (map number_value l.words) l.high d) (number_value l.n) ≡ false;
}

abbrev pub decreases-loop-low : goal.decreases-loop-low
decreases-loop-low l = l.high - l.low
