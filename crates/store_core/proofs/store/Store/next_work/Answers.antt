use Rattle.col_disk.proofs.Moving.{moved_none}
use Rattle.store_core.proofs.store.Store.next_work.Goals as goal

pub returns-in-Some-clause-moved : goal.returns-in-Some-clause-moved
returns-in-Some-clause-moved g c = moved_none g.D.Disk c.args.disk.now
