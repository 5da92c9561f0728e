use Rattle.std.proofs.Common.{◌≡◌, ◌∙◌, sym, subst}
use Rattle.col_disk.proofs.Moving.{moved_join}
use Rattle.ros_container.specs.Encodings.{written_of}
use Rattle.container_draft.specs.Lanes.{HoldsOn}
use Rattle.container_draft.proofs.Loaded.{lanes_held, lanes_wide}
use Rattle.container_draft.proofs.loading.read_lanes.Goals as goal

pub returns-in-Ok-read_all-clause-found : goal.returns-in-Ok-read_all-clause-found
returns-in-Ok-read_all-clause-found g c = λ m told.
    let shape = c.args.shape.now in
    let stamps = c.in-Ok.ensures in
    let read = c.in-Ok-read_all.ensures in
    subst (HoldsOn m (written_of shape) c.args.entry.now c.args.via.now) (sym c.new.ensures)
    (lanes_held m (written_of shape) c.args.entry.now c.args.via.now c.in-Ok-read_all.columns.items c.in-Ok.epochs.items read.wide stamps.long read.long (read.found m (stamps.kept ∙ told)) (stamps.found m told) stamps.within)

pub returns-in-Ok-read_all-clause-wide : goal.returns-in-Ok-read_all-clause-wide
returns-in-Ok-read_all-clause-wide g c = lanes_wide c.args.via.now c.in-Ok-read_all.columns.items c.in-Ok.epochs.items c.new.result c.in-Ok-read_all.ensures.wide c.new.ensures

pub returns-in-Ok-read_all-clause-moved : goal.returns-in-Ok-read_all-clause-moved
returns-in-Ok-read_all-clause-moved g c = moved_join g.D.Disk c.read_stamps.ensures.moved c.read_all.ensures.moved

pub returns-in-Err-read_all-clause-moved : goal.returns-in-Err-read_all-clause-moved
returns-in-Err-read_all-clause-moved g c = moved_join g.D.Disk c.read_stamps.ensures.moved c.read_all.ensures.moved
