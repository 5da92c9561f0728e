use Rattle.store_core.proofs.Sessions.{current_stands}
use Rattle.store_core.proofs.laws.sessions_stand.Goals as goal

pub returns : goal.returns
returns g c = λ disk r state n first last here. current_stands g.D.Disk r disk state n here (c.sessions_may_change.ensures state n first last here.sound)
