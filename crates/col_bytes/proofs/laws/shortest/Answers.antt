use Rattle.col_bytes.proofs.Vints.{is_shortest}
use Rattle.col_bytes.proofs.laws.shortest.Goals as goal

pub returns : goal.returns
returns c = is_shortest
