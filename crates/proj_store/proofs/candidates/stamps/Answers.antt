use Rattle.col_disk.proofs.Moving.{moved_none}
use Rattle.proj_store.proofs.candidates.stamps.Goals as goal

pub returns-else-has_any-clause-moved : goal.returns-else-has_any-clause-moved
returns-else-has_any-clause-moved g c = moved_none g.D.Disk c.args.disk.now
