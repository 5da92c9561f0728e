use Rattle.expr_places.proofs.Same.{columns_decide}
use Rattle.expr_places.proofs.laws.columns_decide.Goals as goal

pub returns : goal.returns
returns c = columns_decide
