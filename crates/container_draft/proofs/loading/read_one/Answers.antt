use Rattle.std.proofs.Common.{arith}
use Rattle.col_disk.proofs.Moving.{moved_none}
use Rattle.ros_container.specs.Encodings.{written_of}
use Rattle.container_draft.proofs.Loaded.{blames_read}
use Rattle.container_draft.proofs.loading.read_one.Goals as goal

pub returns-in-Ok-clause-moved : goal.returns-in-Ok-clause-moved
returns-in-Ok-clause-moved g c = moved_none g.D.Disk c.args.disk.now

pub returns-in-Err-clause-moved : goal.returns-in-Err-clause-moved
returns-in-Err-clause-moved g c = moved_none g.D.Disk c.args.disk.now

pub returns-clause-blamed : goal.returns-clause-blamed
returns-clause-blamed g c =
    blames_read (written_of c.args.shape.now) c.args.column c.args.entry.now (g.D.Disk.holds c.args.disk.now) c.encoding_of-encoding.result c.body_of-body.result c.index_of-index.result c.read_column.result (omega arith) c.encoding_of-encoding.ensures c.body_of-body.ensures
    c.index_of-index.ensures c.read_column.ensures.blamed
