use Rattle.expr_value.proofs.Bounded.{bounded}
use Rattle.expr_value.proofs.Narrow.{value_fits}
use Rattle.expr_value.proofs.laws.value_bounded.Goals as goal

pub returns-clause-bounded : goal.returns-clause-bounded
returns-clause-bounded c = λ s e rows keys. bounded s (record { rows = rows; keys = keys }) e

pub returns-clause-narrow : goal.returns-clause-narrow
returns-clause-narrow c = λ s e rows keys narrow. value_fits s (record { rows = rows; keys = keys }) e narrow
