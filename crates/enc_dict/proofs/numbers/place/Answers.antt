use Rattle.std.proofs.Common.{rules, arith, pos, ◌+◌, ◌-◌, ◌/◌, ◌<◌, length, slice_index_or}
use Rattle.std.proofs.lemmas.List.{get_or_default}
use Rattle.block_codec.specs.Held.{number_value}
use Rattle.enc_dict.proofs.Steps.{step_up, found}
use Rattle.enc_dict.proofs.numbers.place.Goals as goal

pub loop-low-preserved-then-is_less : goal.loop-low-preserved-then-is_less
loop-low-preserved-then-is_less c =
    let middle = c.loop-low.low + (c.loop-low.high - c.loop-low.low) / 2 in
    let word = slice_index_or c.args.words.now middle (pos 0) in
    let lt : middle < length c.args.words.now = omega (arith, c.loop-low-test.true, c.loop-low.invariant.within) in
    record {
      order = omega (arith, c.loop-low-test.true);
      within = c.loop-low.invariant.within;
      below = step_up number_value c.args.words.now (number_value c.args.n.now) middle word c.requires lt (get_or_default c.args.words.now middle (pos 0) word lt) (search rules);
      above = c.loop-low.invariant.above;
    }

pub returns-clause-exact : goal.returns-clause-exact
returns-clause-exact c =
    found number_value c.args.words.now (number_value c.args.n.now) c.loop-low.low c.loop-low.high c.loop-low.invariant.order c.loop-low.invariant.within c.loop-low-test.false c.loop-low.invariant.below c.loop-low.invariant.above
