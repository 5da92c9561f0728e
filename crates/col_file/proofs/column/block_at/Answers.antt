use Rattle.std.proofs.Common.{arith, rules, drop, ◌*◌}
use Rattle.pos_index.proofs.Building.{short_block}
use Rattle.col_file.proofs.column.block_at.Goals as goal

pub returns-then-rest-le1024 : goal.returns-then-rest-le1024
returns-then-rest-le1024 c = short_block (drop (1024 * c.args.k) c.args.values.now) c.split_at.result.1.now (search rules) (omega arith)
