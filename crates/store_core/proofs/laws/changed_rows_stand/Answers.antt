use Rattle.store_core.proofs.Changed.{marked_stands}
use Rattle.store_core.proofs.laws.changed_rows_stand.Goals as goal

pub returns : goal.returns
returns g c = λ disk r state keep t left made news deletes here rest same gone sound. marked_stands g.D.Disk r disk state keep t left made news deletes here rest same gone sound
