use Rattle.store_core.proofs.Changed.{given_stands}
use Rattle.store_core.proofs.laws.given_changes_stand.Goals as goal

pub returns : goal.returns
returns g c = λ disk r state name rows deletes here sound. given_stands g.D.Disk r disk state name rows deletes here sound
