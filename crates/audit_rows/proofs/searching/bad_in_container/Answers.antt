use Rattle.std.proofs.Common.{length}
use Rattle.col_disk.proofs.Moving.{moved_join}
use Rattle.audit_rows.proofs.BlocksSearched.{container_finds}
use Rattle.audit_rows.proofs.Finding.{all_below}
use Rattle.audit_rows.proofs.Indexes.{of_same}
use Rattle.audit_rows.proofs.searching.bad_in_container.Goals as goal

pub returns-in-Ok-bad_in_blocks-clause-found : goal.returns-in-Ok-bad_in_blocks-clause-found
returns-in-Ok-bad_in_blocks-clause-found g c =
    container_finds (g.D.Disk.holds c.args.disk.now) (g.D.Disk.holds c.open.new.disk) c.args.epoch c.args.mark c.args.table.now c.args.shape.now c.args.container.now c.in-Ok.opened.vector.marks c.in-Ok-bad_in_blocks.found
    c.one_list_of_rows.ensures.vector c.open.ensures.kept c.in-Ok.ensures.found.vector
    (c.in-Ok-bad_in_blocks.ensures.found (of_same (g.D.Disk.holds c.open.new.disk) (g.D.Disk.holds c.args.disk.now) c.args.shape.now c.args.container.now c.args.columns.now c.in-Ok.opened c.open.ensures.kept c.in-Ok.ensures.found))

pub returns-in-Ok-bad_in_blocks-clause-moved : goal.returns-in-Ok-bad_in_blocks-clause-moved
returns-in-Ok-bad_in_blocks-clause-moved g c = moved_join g.D.Disk c.open.ensures.moved c.bad_in_blocks.ensures.moved

pub returns-clause-moved : goal.returns-clause-moved
returns-clause-moved g c = moved_join g.D.Disk c.open.ensures.moved c.bad_in_blocks.ensures.moved

pub open-requires-clause-columns : goal.open-requires-clause-columns
open-requires-clause-columns g c = all_below (length c.args.shape.now.columns) c.args.columns.now c.requires.columns
