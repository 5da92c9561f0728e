use Rattle.container_blocks.proofs.Columns.{next_rows, all_rows}
use Rattle.container_blocks.proofs.laws.blocks_are_all_rows.Goals as goal

pub returns : goal.returns
returns c = record { next = next_rows; all = all_rows }
