use Rattle.block_codec.proofs.Ordered.{day_cmp}
use Rattle.block_codec.proofs.laws.day_lanes_keep_order.Goals as goal

pub returns : goal.returns
returns c = day_cmp
