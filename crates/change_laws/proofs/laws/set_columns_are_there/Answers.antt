use Rattle.change_laws.proofs.Known.{places_there}
use Rattle.change_laws.proofs.laws.set_columns_are_there.Goals as goal

pub returns : goal.returns
returns c = places_there
