use Rattle.col_disk.proofs.Moving.{moved_read, moved_join, looks_join}
use Rattle.col_disk.proofs.whole.read_whole.Goals as goal

pub returns-in_err-len-clause-moved : goal.returns-in_err-len-clause-moved
returns-in_err-len-clause-moved g c = moved_read g.D.Disk c.size.ensures.keeps

pub returns-in-Some-clause-moved : goal.returns-in-Some-clause-moved
returns-in-Some-clause-moved g c = moved_join g.D.Disk (moved_read g.D.Disk c.size.ensures.keeps) (moved_read g.D.Disk c.read.ensures.keeps)

pub returns-in-None-clause-moved : goal.returns-in-None-clause-moved
returns-in-None-clause-moved g c = moved_read g.D.Disk c.size.ensures.keeps

pub returns-in-Some-clause-looks : goal.returns-in-Some-clause-looks
returns-in-Some-clause-looks g c = looks_join g.D.Disk c.size.ensures.keeps c.read.ensures.keeps
