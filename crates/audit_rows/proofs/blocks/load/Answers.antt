use Rattle.col_disk.proofs.Moving.{moved_join}
use Rattle.ros_container.specs.Encodings.{written_of}
use Rattle.audit_rows.proofs.BlockRows.{block_is}
use Rattle.audit_rows.proofs.Faults.{container_blamed, blames_same}
use Rattle.audit_rows.proofs.Indexes.{indexes_seen, room}
use Rattle.audit_rows.proofs.blocks.load.Goals as goal

pub returns-in-Err-clause-blamed : goal.returns-in-Err-clause-blamed
returns-in-Err-clause-blamed g c = λ of. container_blamed c.args.shape.now c.args.container.now (g.D.Disk.holds c.args.disk.now) c.in-Err.fault (c.in-Err.ensures.blamed of.stamps)

pub returns-in-Err-columns_of-clause-blamed : goal.returns-in-Err-columns_of-clause-blamed
returns-in-Err-columns_of-clause-blamed g c = λ of.
    blames_same c.args.shape.now c.args.container.now (g.D.Disk.holds c.epochs.new.disk) (g.D.Disk.holds c.args.disk.now) c.in-Err-columns_of.fault c.epochs.ensures.kept
    (container_blamed c.args.shape.now c.args.container.now (g.D.Disk.holds c.epochs.new.disk) c.in-Err-columns_of.fault
    (c.in-Err-columns_of.ensures.blamed
    (indexes_seen (written_of c.args.shape.now) c.args.container.now c.args.columns.now (g.D.Disk.holds c.epochs.new.disk) (g.D.Disk.holds c.args.disk.now) c.args.opened.now.indexes.items c.as_slice-indexes.result.now c.epochs.ensures.kept
    c.as_slice-indexes.ensures.value of.each)))

pub returns-in-Err-columns_of-clause-moved : goal.returns-in-Err-columns_of-clause-moved
returns-in-Err-columns_of-clause-moved g c = moved_join g.D.Disk c.epochs.ensures.moved c.columns_of.ensures.moved

pub returns-in-Ok-columns_of-clause-moved : goal.returns-in-Ok-columns_of-clause-moved
returns-in-Ok-columns_of-clause-moved g c = moved_join g.D.Disk c.epochs.ensures.moved c.columns_of.ensures.moved

pub returns-in-Ok-columns_of-clause-room : goal.returns-in-Ok-columns_of-clause-room
returns-in-Ok-columns_of-clause-room g c = room c.args.container.now c.args.opened.now.stamps c.args.k _ c.requires.open.stamps c.requires.block c.in-Ok.ensures.long

pub returns-in-Ok-columns_of-clause-found : goal.returns-in-Ok-columns_of-clause-found
returns-in-Ok-columns_of-clause-found g c = λ of m told rows holding.
    block_is (g.D.Disk.holds c.args.disk.now) (g.D.Disk.holds c.epochs.new.disk) c.args.shape.now c.args.container.now c.args.columns.now c.args.k c.in-Ok.stamps.items c.in-Ok-columns_of.columns.items
    c.epochs.ensures.kept (c.in-Ok.ensures.found of.stamps)
    (c.in-Ok-columns_of.ensures.found
    (indexes_seen (written_of c.args.shape.now) c.args.container.now c.args.columns.now (g.D.Disk.holds c.epochs.new.disk) (g.D.Disk.holds c.args.disk.now) c.args.opened.now.indexes.items c.as_slice-indexes.result.now c.epochs.ensures.kept
    c.as_slice-indexes.ensures.value of.each))
    m told rows holding
