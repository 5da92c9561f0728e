use Rattle.std.proofs.Common.{refl}
use Rattle.col_disk.proofs.Moving.{moved_join, moved_write, moved_read}
use Rattle.catalog_root.proofs.committing.put.Goals as goal

pub returns-in-Ok-clause-moved : goal.returns-in-Ok-clause-moved
returns-in-Ok-clause-moved g c = moved_join g.D.Disk (moved_write g.D.Disk refl c.write.ensures.writes) (moved_read g.D.Disk c.sync.ensures.keeps)

pub returns-in-Err-clause-moved : goal.returns-in-Err-clause-moved
returns-in-Err-clause-moved g c = moved_write g.D.Disk refl c.write.ensures.writes
