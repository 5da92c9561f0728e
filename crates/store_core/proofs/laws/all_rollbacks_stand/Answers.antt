use Rattle.store_core.proofs.Dropping.{all_dropped_stands}
use Rattle.store_core.proofs.laws.all_rollbacks_stand.Goals as goal

pub returns : goal.returns
returns g c = λ disk r state here. all_dropped_stands g.D.Disk r disk state here
