use Rattle.col_disk.proofs.Moving.{moved_none}
use Rattle.exec_scan.proofs.opened.index_at.Goals as goal

pub returns-in-None-clause-moved : goal.returns-in-None-clause-moved
returns-in-None-clause-moved g c = moved_none g.D.Disk c.args.disk.now
