use Rattle.store_core.proofs.Sessions.{dropped_stands}
use Rattle.store_core.proofs.laws.rollbacks_stand.Goals as goal

pub returns : goal.returns
returns g c = λ disk r state here. dropped_stands g.D.Disk r disk state here (c.changes_may_be_dropped.ensures state here.sound)
