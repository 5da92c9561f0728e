use Rattle.catch_laws.proofs.Ends.{ends}
use Rattle.catch_laws.proofs.laws.a_catch_up_ends.Goals as goal

pub returns : goal.returns
returns c = ends
