use Rattle.query_order.proofs.OneList.{one_printed_list}
use Rattle.query_order.proofs.laws.one_printed_list.Goals as goal

pub returns : goal.returns
returns c = one_printed_list
