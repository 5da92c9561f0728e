use Rattle.col_disk.proofs.Moving.{moved_join}
use Rattle.store_audit.proofs.auditing.audit.Goals as goal

pub returns-in-Ok-Root-clause-moved : goal.returns-in-Ok-Root-clause-moved
returns-in-Ok-Root-clause-moved g c = moved_join g.D.Disk c.open.ensures.moved c.judge.ensures.moved
