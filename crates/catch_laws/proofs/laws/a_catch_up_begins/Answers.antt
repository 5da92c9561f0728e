use Rattle.catch_laws.proofs.Ends.{begins}
use Rattle.catch_laws.proofs.laws.a_catch_up_begins.Goals as goal

pub returns : goal.returns
returns c = begins
