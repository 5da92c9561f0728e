use Rattle.std.proofs.Common.{◌∙◌}
use Rattle.col_disk.proofs.Moving.{moved_join}
use Rattle.audit_rows.proofs.Faults.{container_blamed, blames_same}
use Rattle.audit_rows.proofs.Indexes.{is_of}
use Rattle.audit_rows.proofs.blocks.open.Goals as goal

pub returns-in-Err-indexes_of-clause-moved : goal.returns-in-Err-indexes_of-clause-moved
returns-in-Err-indexes_of-clause-moved g c = moved_join g.D.Disk c.vector_of.ensures.moved c.indexes_of.ensures.moved

pub returns-in-Err-indexes_of-clause-blamed : goal.returns-in-Err-indexes_of-clause-blamed
returns-in-Err-indexes_of-clause-blamed g c =
    blames_same c.args.shape.now c.args.container.now (g.D.Disk.holds c.vector_of.new.disk) (g.D.Disk.holds c.args.disk.now) c.in-Err-indexes_of.fault c.vector_of.ensures.kept
    (container_blamed c.args.shape.now c.args.container.now (g.D.Disk.holds c.vector_of.new.disk) c.in-Err-indexes_of.fault c.in-Err-indexes_of.ensures.blamed)

pub returns-in-Err-index-clause-moved : goal.returns-in-Err-index-clause-moved
returns-in-Err-index-clause-moved g c = moved_join g.D.Disk (moved_join g.D.Disk c.vector_of.ensures.moved c.indexes_of.ensures.moved) c.index.ensures.moved

pub returns-in-Err-index-clause-blamed : goal.returns-in-Err-index-clause-blamed
returns-in-Err-index-clause-blamed g c =
    blames_same c.args.shape.now c.args.container.now (g.D.Disk.holds c.indexes_of.new.disk) (g.D.Disk.holds c.args.disk.now) c.in-Err-index.fault (c.indexes_of.ensures.kept ∙ c.vector_of.ensures.kept)
    (container_blamed c.args.shape.now c.args.container.now (g.D.Disk.holds c.indexes_of.new.disk) c.in-Err-index.fault c.in-Err-index.ensures.blamed)

pub returns-in-Ok-index-clause-moved : goal.returns-in-Ok-index-clause-moved
returns-in-Ok-index-clause-moved g c = moved_join g.D.Disk (moved_join g.D.Disk c.vector_of.ensures.moved c.indexes_of.ensures.moved) c.index.ensures.moved

pub returns-in-Ok-index-clause-found : goal.returns-in-Ok-index-clause-found
returns-in-Ok-index-clause-found g c =
    is_of (g.D.Disk.holds c.args.disk.now) (g.D.Disk.holds c.vector_of.new.disk) (g.D.Disk.holds c.indexes_of.new.disk) c.args.shape.now c.args.container.now c.args.columns.now _ c.width_of.result
    c.vector_of.ensures.kept (c.indexes_of.ensures.kept ∙ c.vector_of.ensures.kept) c.width_of.ensures c.in-Ok.ensures.found c.in-Ok-indexes_of.ensures.held c.in-Ok-index.ensures.found
