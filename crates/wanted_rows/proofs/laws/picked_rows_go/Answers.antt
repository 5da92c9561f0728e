use Rattle.wanted_rows.proofs.Taking.{picks_took}
use Rattle.wanted_rows.proofs.laws.picked_rows_go.Goals as goal

pub returns : goal.returns
returns c = picks_took
