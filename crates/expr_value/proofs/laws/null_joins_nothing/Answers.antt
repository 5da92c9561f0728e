use Rattle.expr_value.proofs.Settled.{joins_nothing}
use Rattle.expr_value.proofs.laws.null_joins_nothing.Goals as goal

pub returns : goal.returns
returns c = joins_nothing
