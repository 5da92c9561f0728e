use Rattle.std.proofs.Common.{◌∙◌, refl}
use Rattle.col_disk.proofs.Moving.{moved_none, moved_write}
use Rattle.vector_files.proofs.Bytes.{written}
use Rattle.vector_files.proofs.writing.write.Goals as goal

pub returns-in-Ok-clause-held : goal.returns-in-Ok-clause-held
returns-in-Ok-clause-held g c =
    written c.args.number c.as_slice.result.now c.args.vector.now.marks (g.D.Disk.holds c.args.disk.now) (g.D.Disk.holds c.write.new.self) c.write.result c.in-Ok.ensures.spelled (c.as_slice.ensures.value ∙ c.in-Ok.ensures.bytes) c.write.ensures.writes.contents

pub returns-in-Ok-clause-moved : goal.returns-in-Ok-clause-moved
returns-in-Ok-clause-moved g c = moved_write g.D.Disk refl c.write.ensures.writes

pub returns-in-Err-clause-moved : goal.returns-in-Err-clause-moved
returns-in-Err-clause-moved g c = moved_none g.D.Disk c.args.disk.now
