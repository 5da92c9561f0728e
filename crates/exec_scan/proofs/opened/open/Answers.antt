use Rattle.col_disk.proofs.Moving.{moved_join}
use Rattle.exec_scan.proofs.opened.open.Goals as goal

pub returns-in-Err-index-clause-moved : goal.returns-in-Err-index-clause-moved
returns-in-Err-index-clause-moved g c = moved_join g.D.Disk c.indexes_of.ensures.moved c.index.ensures.moved

pub returns-in-Ok-deletes_of-clause-moved : goal.returns-in-Ok-deletes_of-clause-moved
returns-in-Ok-deletes_of-clause-moved g c = moved_join g.D.Disk c.indexes_of.ensures.moved c.index.ensures.moved

pub returns-in-Err-deletes_of-clause-moved : goal.returns-in-Err-deletes_of-clause-moved
returns-in-Err-deletes_of-clause-moved g c = moved_join g.D.Disk c.indexes_of.ensures.moved c.index.ensures.moved
