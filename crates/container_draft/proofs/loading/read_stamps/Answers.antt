use Rattle.ros_container.specs.Encodings.{written_of}
use Rattle.ros_container.proofs.Blames.{blames_epochs}
use Rattle.container_draft.proofs.loading.read_stamps.Goals as goal

pub returns-in-Ok-None-clause-blamed : goal.returns-in-Ok-None-clause-blamed
returns-in-Ok-None-clause-blamed g c =
    let none = rw c.in-Ok-None.field-0-is at c.in-Ok-None.ensures.none in
    blames_epochs (written_of c.args.shape.now) c.args.entry.now (g.D.Disk.holds c.args.disk.now) c.in-Ok.values (λ m us ws a b. c.one_column.ensures _ _ _ _ m us ws a b) c.in-Ok.ensures.found none c.body_of.result c.body_of.ensures
