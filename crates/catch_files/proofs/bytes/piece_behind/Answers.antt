use Rattle.col_disk.proofs.Moving.{moved_read}
use Rattle.catch_files.proofs.bytes.piece_behind.Goals as goal

pub returns-in-Ok-clause-moved : goal.returns-in-Ok-clause-moved
returns-in-Ok-clause-moved g c = moved_read g.A.Disk c.read.ensures.keeps

pub returns-in-Err-clause-moved : goal.returns-in-Err-clause-moved
returns-in-Err-clause-moved g c = moved_read g.A.Disk c.read.ensures.keeps
