use Rattle.col_disk.proofs.Moving.{moved_read, moved_join}
use Rattle.col_file.proofs.block.piece_of.Goals as goal

pub returns-in-Ok-Some-clause-moved : goal.returns-in-Ok-Some-clause-moved
returns-in-Ok-Some-clause-moved g c = moved_join g.D.Disk (moved_read g.D.Disk c.size.ensures.keeps) c.read_to-in-Ok-Some.ensures.moved

pub returns-in-Ok-None-clause-moved : goal.returns-in-Ok-None-clause-moved
returns-in-Ok-None-clause-moved g c = moved_read g.D.Disk c.size.ensures.keeps

pub returns-in-Err-clause-moved : goal.returns-in-Err-clause-moved
returns-in-Err-clause-moved g c = moved_read g.D.Disk c.size.ensures.keeps
