use Rattle.std.proofs.Common.{◌<◌, sym, ◌∙◌, map, arith}
use Rattle.block_codec.specs.Held.{number_value}
use Rattle.block_choice.specs.declared.codec.Codec.TheVariants.{Rle, DeltaVal}
use Rattle.block_choice.specs.Codecs.{spelled_by}
use Rattle.block_choice.proofs.Lane.{lane_numeric, lane_delta}
use Rattle.block_choice.proofs.Shortest.{long, numbers, first_shorter, second_shorter}
use Rattle.block_choice.proofs.numbers.first_of.Goals as goal

pub numbers_block_len-delta-requires : goal.numbers_block_len-delta-requires
numbers_block_len-delta-requires c = lane_delta c.args.numbers.now c.requires.block

pub returns-then-delta-rle-clause-codec : goal.returns-then-delta-rle-clause-codec
unfolding spelled_by
returns-then-delta-rle-clause-codec c =
    let vs = map number_value c.args.numbers.now in
    sym (numbers vs (lane_numeric c.args.numbers.now) ∙ second_shorter vs Rle DeltaVal (omega (arith, c.numbers_block_len-delta.ensures, c.requires.rle, c.if-delta-rle.true)))

pub returns-else-delta-rle-clause-codec : goal.returns-else-delta-rle-clause-codec
unfolding spelled_by
returns-else-delta-rle-clause-codec c =
    let vs = map number_value c.args.numbers.now in
    sym (numbers vs (lane_numeric c.args.numbers.now) ∙ first_shorter vs Rle DeltaVal (omega (arith, c.numbers_block_len-delta.ensures, c.requires.rle, c.if-delta-rle.false)))

pub returns-then-delta-rle-clause-fits : goal.returns-then-delta-rle-clause-fits
returns-then-delta-rle-clause-fits c = lane_delta c.args.numbers.now c.requires.block
