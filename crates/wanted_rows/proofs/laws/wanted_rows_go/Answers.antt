use Rattle.wanted_rows.proofs.Whole.{took_takes}
use Rattle.wanted_rows.proofs.laws.wanted_rows_go.Goals as goal

pub returns : goal.returns
returns c = took_takes
