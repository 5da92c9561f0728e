use Rattle.std.proofs.Common.{arith, ap, ◌∙◌, ◌+◌, [], pos, take, map, slice_index_or}
use Rattle.std.specs.List.{fold}
use Rattle.block_codec.specs.Held.{number_value}
use Rattle.enc_dict.specs.Dict.{with_value}
use Rattle.enc_dict.specs.Fronts.{is_ascending}
use Rattle.enc_dict.proofs.Ascending.{ascends_test, ascends_fold}
use Rattle.enc_dict.proofs.Lane.{lane_at, within}
use Rattle.enc_dict.proofs.Weights.{front_weighs, weight_step, words_more}
use Rattle.enc_dict.proofs.numbers.are_within.Goals as goal

pub add_counted-requires : goal.add_counted-requires
add_counted-requires c =
    let vs = map number_value c.args.numbers.now in
    ap is_ascending c.loop-n.invariant.words ∙ ascends_test (fold with_value [] (take c.loop-n.n-index vs)) (ascends_fold (take c.loop-n.n-index vs) [] tt)

pub returns-then-len-room : goal.returns-then-len-room
returns-then-len-room c _ =
    let ns = c.args.numbers.now in
    let i = c.loop-n.n-index in
    let now = weight_step (map number_value ns) i (number_value (slice_index_or ns i (pos 0))) (map number_value c.loop-n.words.items) c.loop-n.len c.in_ok-len.field-0 (within ns i c.loop-n-test.true) (lane_at ns i c.loop-n-test.true) c.loop-n.invariant.words c.loop-n.invariant.weight c.in_ok-len.ensures.bytes in
    omega (arith, now, front_weighs (map number_value ns) (i + 1), c.if-len-room.true)

pub loop-n-preserved : goal.loop-n-preserved
loop-n-preserved c =
    let ns = c.args.numbers.now in
    let i = c.loop-n.n-index in
    let v = number_value (slice_index_or ns i (pos 0)) in
    let old = map number_value c.loop-n.words.items in
    record {
      words = words_more (map number_value ns) i v old (map number_value c.add_counted.new.words.items) (within ns i c.loop-n-test.true) (lane_at ns i c.loop-n-test.true) c.loop-n.invariant.words c.in_ok-len.ensures.words;
      weight = weight_step (map number_value ns) i v old c.loop-n.len c.in_ok-len.field-0 (within ns i c.loop-n-test.true) (lane_at ns i c.loop-n-test.true) c.loop-n.invariant.words c.loop-n.invariant.weight c.in_ok-len.ensures.bytes;
      few = omega (arith, c.loop-n.invariant.few, c.in_ok-len.ensures.few);
    }
