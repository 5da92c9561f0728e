use Rattle.col_disk.proofs.Moving.{moved_none}
use Rattle.store_audit.proofs.comparing.rows_among.Goals as goal

pub returns-in-Err-clause-moved : goal.returns-in-Err-clause-moved
returns-in-Err-clause-moved g c = moved_none g.D.Disk c.args.disk.now
