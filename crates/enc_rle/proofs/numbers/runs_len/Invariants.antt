use Rattle.std.proofs.Common.{◌≤◌, ◌+◌, ◌*◌, drop, map}
use Rattle.block_codec.specs.Held.{number_value}
use Rattle.enc_rle.specs.Rle.{longer, runs_of}
use Rattle.enc_rle.proofs.Counting.{Counted}
use Rattle.enc_rle.proofs.numbers.runs_len.Given as goal

abbrev pub invariant-loop-next : goal.invariant-loop-next
invariant-loop-next l = record {
  few : l.count ≤ l.next-index + 1;
  most : l.runs ≤ l.next-index + 1;
  small : l.len ≤ 19 * l.next-index;
  counted : Counted (runs_of (map number_value l.numbers)) l.len l.runs (longer (number_value l.number) l.count (runs_of (drop l.next-index (map number_value l.rest))));
}
