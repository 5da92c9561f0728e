use Rattle.std.proofs.Common.{arith, rules, ◌-◌, length, take, drop, map, pos, slice_index_or, w64}
use Rattle.std.proofs.lemmas.Int.{to_z-of_z}
use Rattle.block_codec.specs.Held.{number_value}
use Rattle.enc_rle.specs.Rle.{runs_of}
use Rattle.enc_rle.proofs.Counting.{same_counted, next_counted, all_counted}
use Rattle.enc_rle.proofs.Lane.{lane_at, within, lane_done}
use Rattle.enc_rle.proofs.numbers.runs_len.Goals as goal

pub loop-next-preserved-then-are_same : goal.loop-next-preserved-then-are_same
loop-next-preserved-then-are_same c =
    let rest = take (length c.args.numbers.now - 1) (drop 1 c.args.numbers.now) in
    record {
      few = omega (arith, c.loop-next.invariant.few);
      most = omega (arith, c.loop-next.invariant.most);
      small = omega (arith, c.loop-next.invariant.small);
      counted = same_counted (runs_of (map number_value c.args.numbers.now)) c.loop-next.len c.loop-next.runs (number_value c.loop-next.number.now) (number_value (slice_index_or rest c.loop-next.next-index (pos 0))) c.loop-next.count (map number_value rest) c.loop-next.next-index
          (within rest c.loop-next.next-index (search rules)) (lane_at rest c.loop-next.next-index (search rules)) (search rules) c.loop-next.invariant.counted;
    }

pub loop-next-preserved : goal.loop-next-preserved
loop-next-preserved c =
    let rest = take (length c.args.numbers.now - 1) (drop 1 c.args.numbers.now) in
    record {
      few = omega arith;
      most = omega (arith, c.loop-next.invariant.most);
      small = omega (arith, c.loop-next.invariant.small, c.run_len-len.ensures.few);
      counted = next_counted (runs_of (map number_value c.args.numbers.now)) c.loop-next.len c.run_len-len.result c.loop-next.runs (number_value c.loop-next.number.now) (number_value (slice_index_or rest c.loop-next.next-index (pos 0))) c.loop-next.count (map number_value rest) c.loop-next.next-index
          (within rest c.loop-next.next-index (search rules)) (lane_at rest c.loop-next.next-index (search rules)) (search rules) (rw (to_z-of_z w64 c.loop-next.number.now (search rules)) at c.run_len-len.ensures.exact) c.loop-next.invariant.counted;
    }

pub returns-clause-runs : goal.returns-clause-runs
returns-clause-runs c =
    let rest = take (length c.args.numbers.now - 1) (drop 1 c.args.numbers.now) in
    (all_counted (runs_of (map number_value c.args.numbers.now)) c.loop-next.len c.run_len.result c.loop-next.runs (number_value c.loop-next.number.now) c.loop-next.count (drop c.loop-next.next-index (map number_value rest))
    (lane_done rest c.loop-next.next-index (search rules)) (rw (to_z-of_z w64 c.loop-next.number.now (search rules)) at c.run_len.ensures.exact) c.loop-next.invariant.counted).0

pub returns-clause-bytes : goal.returns-clause-bytes
returns-clause-bytes c =
    let rest = take (length c.args.numbers.now - 1) (drop 1 c.args.numbers.now) in
    (all_counted (runs_of (map number_value c.args.numbers.now)) c.loop-next.len c.run_len.result c.loop-next.runs (number_value c.loop-next.number.now) c.loop-next.count (drop c.loop-next.next-index (map number_value rest))
    (lane_done rest c.loop-next.next-index (search rules)) (rw (to_z-of_z w64 c.loop-next.number.now (search rules)) at c.run_len.ensures.exact) c.loop-next.invariant.counted).1
