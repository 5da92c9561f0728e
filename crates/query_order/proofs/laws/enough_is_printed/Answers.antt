use Rattle.query_order.proofs.Enough.{enough_printed}
use Rattle.query_order.proofs.laws.enough_is_printed.Goals as goal

pub returns : goal.returns
returns c = enough_printed
