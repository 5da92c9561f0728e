use Rattle.std.proofs.Common.{get_or, subst, rules}
use Rattle.std.specs.Prelude.{pos}
use Rattle.std.specs.List.{All}
use Rattle.std.proofs.lemmas.List.{take_all}
use Rattle.std.proofs.lemmas.List.Elements.{All-more}
use Rattle.block_codec.specs.Held.{number_value}
use Rattle.ros_container.specs.Rows.{IsEpochOf}
use Rattle.container_blocks.proofs.stamps.numbers_are_epochs.Goals as goal

pub loop-n-preserved : goal.loop-n-preserved
loop-n-preserved c =
    let is : IsEpochOf c.args.entry.now (number_value (get_or c.args.numbers.now c.loop-n.n-index (pos 0))) = search rules in
    All-more (λ n. IsEpochOf c.args.entry.now (number_value n)) c.args.numbers.now c.loop-n.n-index (pos 0) c.loop-n-test.true c.loop-n.invariant is

pub returns : goal.returns
returns c = record {
  yes = λ done. subst (All (λ n. IsEpochOf c.args.entry.now (number_value n))) (take_all c.loop-n.n-index c.args.numbers.now c.loop-n-test.false) c.loop-n.invariant;
}
