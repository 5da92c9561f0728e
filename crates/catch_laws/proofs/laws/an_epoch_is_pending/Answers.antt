use Rattle.catch_laws.proofs.Pending.{pends_more, pends_none, pends_skip}
use Rattle.catch_laws.proofs.laws.an_epoch_is_pending.Goals as goal

pub returns : goal.returns
returns c = record { none = pends_none; more = pends_more; skip = pends_skip }
