use Rattle.ros_container.specs.Encodings.{written_of}
use Rattle.container_draft.proofs.Loaded.{blames_read_last}
use Rattle.container_draft.proofs.loading.read_epochs.Goals as goal

pub returns-clause-blamed : goal.returns-clause-blamed
returns-clause-blamed g c =
    blames_read_last (written_of c.args.shape.now) c.args.entry.now (g.D.Disk.holds c.args.disk.now) c.body_of-body.result c.index_of-index.result c.read_column.result c.body_of-body.ensures c.index_of-index.ensures c.read_column.ensures.blamed
