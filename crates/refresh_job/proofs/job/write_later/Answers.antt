use Rattle.col_disk.proofs.Moving.{moved_none}
use Rattle.refresh_job.proofs.job.write_later.Goals as goal

pub returns-in-Err-clause-moved : goal.returns-in-Err-clause-moved
returns-in-Err-clause-moved g c = moved_none g.D.Disk c.args.disk.now

pub returns-in-Err-refs-clause-moved : goal.returns-in-Err-refs-clause-moved
returns-in-Err-refs-clause-moved g c = moved_none g.D.Disk c.args.disk.now
