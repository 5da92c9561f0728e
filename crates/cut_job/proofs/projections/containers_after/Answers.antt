use Rattle.col_disk.proofs.Moving.{moved_none}
use Rattle.cut_job.proofs.projections.containers_after.Goals as goal

pub returns-then-not-p-clause-moved : goal.returns-then-not-p-clause-moved
returns-then-not-p-clause-moved g c = moved_none g.D.Disk c.args.disk.now
