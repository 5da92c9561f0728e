use Rattle.query_laws.proofs.Bare.{null_not_kept}
use Rattle.query_laws.proofs.laws.null_joins_nothing.Goals as goal

pub returns : goal.returns
returns c = null_not_kept
