use Rattle.row_bounds.proofs.Fronts.{front_within}
use Rattle.row_bounds.proofs.laws.a_front_lies_within.Goals as goal

pub returns : goal.returns
returns c = front_within
