use Rattle.query_laws.proofs.Bare.{prints_all}
use Rattle.query_laws.proofs.laws.bare_query_prints_all.Goals as goal

pub returns : goal.returns
returns c = prints_all
