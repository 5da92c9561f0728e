use Rattle.std.proofs.Common.{sym, subst}
use Rattle.block_codec.specs.Blocks.{IsOneBlock}
use Rattle.block_choice.specs.Choice.{TakesAll}
use Rattle.col_file.proofs.Laid.{one_block, block_taken}
use Rattle.col_file.proofs.column.push_block.Goals as goal

pub encode-requires-clause-block : goal.encode-requires-clause-block
encode-requires-clause-block c = subst IsOneBlock (sym c.block_at.ensures) (one_block c.args.k c.args.values.now c.requires.block c.requires.values)

pub encode-requires-clause-kinds : goal.encode-requires-clause-kinds
encode-requires-clause-kinds c = subst (TakesAll c.args.encoding) (sym c.block_at.ensures) (block_taken c.args.encoding c.args.k c.args.values.now c.requires.kinds)
