use Rattle.catch_laws.proofs.Pending.{pends_commit}
use Rattle.catch_laws.proofs.laws.an_epoch_is_committed.Goals as goal

pub returns : goal.returns
returns c = pends_commit
