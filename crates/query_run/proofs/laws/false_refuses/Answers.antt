use Rattle.query_run.proofs.Told.{false_refuses}
use Rattle.query_run.proofs.laws.false_refuses.Goals as goal

pub returns : goal.returns
returns c = false_refuses
