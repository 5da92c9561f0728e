use Rattle.col_disk.proofs.Moving.{moved_join}
use Rattle.audit_rows.proofs.Gathering.{container_adds}
use Rattle.audit_rows.proofs.Indexes.{of_same}
use Rattle.audit_rows.proofs.collecting.add_container.Goals as goal

pub returns-in-Ok-add_blocks-clause-found : goal.returns-in-Ok-add_blocks-clause-found
returns-in-Ok-add_blocks-clause-found g c =
    container_adds (g.D.Disk.holds c.args.disk.now) (g.D.Disk.holds c.open.new.disk) c.args.shape.now c.args.container.now c.args.columns.now c.args.epoch c.args.mark c.in-Ok.opened.vector.marks c.args.out.now.items c.add_blocks.new.out.items
    c.one_list_of_rows.ensures.vector c.open.ensures.kept c.in-Ok.ensures.found.vector
    (c.in-Ok-add_blocks.ensures.found (of_same (g.D.Disk.holds c.open.new.disk) (g.D.Disk.holds c.args.disk.now) c.args.shape.now c.args.container.now c.args.columns.now c.in-Ok.opened c.open.ensures.kept c.in-Ok.ensures.found))

pub returns-in-Ok-add_blocks-clause-moved : goal.returns-in-Ok-add_blocks-clause-moved
returns-in-Ok-add_blocks-clause-moved g c = moved_join g.D.Disk c.open.ensures.moved c.add_blocks.ensures.moved

pub returns-clause-moved : goal.returns-clause-moved
returns-clause-moved g c = moved_join g.D.Disk c.open.ensures.moved c.add_blocks.ensures.moved
