use Rattle.std.proofs.Common.{rules}
use Rattle.pos_index.proofs.Each.{each_more, each_all}
use Rattle.ros_container.specs.Rows.{IsEpochOf}
use Rattle.container_blocks.proofs.stamps.words_are_epochs.Goals as goal

pub loop-word-preserved : goal.loop-word-preserved
loop-word-preserved c =
    let is : IsEpochOf c.args.entry.now c.word-item.result = search rules in
    each_more (IsEpochOf c.args.entry.now) c.args.words.now c.loop-word.word-index c.word-item.result c.loop-word-test.true c.word-item.is is c.loop-word.invariant

pub returns : goal.returns
returns c = record {
  yes = λ done. each_all (IsEpochOf c.args.entry.now) c.args.words.now c.loop-word.word-index c.loop-word-test.false c.loop-word.invariant;
}
