use Rattle.expr_value.proofs.Settled.{false_settles, true_settles}
use Rattle.expr_value.proofs.laws.one_part_settles.Goals as goal

pub returns-clause-all : goal.returns-clause-all
returns-clause-all c = false_settles

pub returns-clause-some : goal.returns-clause-some
returns-clause-some c = true_settles
