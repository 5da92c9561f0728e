use Rattle.store_core.proofs.Sessions.{pending_stands}
use Rattle.store_core.proofs.laws.pending_rows_stand.Goals as goal

pub returns : goal.returns
returns g c = λ disk r state name rows t here there fit free. pending_stands g.D.Disk r disk state name rows here (c.pending_rows_are_sound.ensures state name rows t there fit free here.sound)
