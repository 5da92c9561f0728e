use Rattle.block_codec.proofs.Ordered.{lane_cmp}
use Rattle.block_codec.proofs.laws.lanes_keep_order.Goals as goal

pub returns : goal.returns
returns c = lane_cmp
