use Rattle.std.proofs.Common.{Bool, length, subst, sym}
use Rattle.col_disk.proofs.Moving.{moved_none}
use Rattle.ros_container.specs.Encodings.{written_of}
use Rattle.container_draft.specs.Reading.{JoinsIf}
use Rattle.container_draft.proofs.OnColumns.{wide_more}
use Rattle.container_draft.proofs.reading.read_if.Goals as goal

pub returns-then-not-wanted-clause-moved : goal.returns-then-not-wanted-clause-moved
returns-then-not-wanted-clause-moved g c = moved_none g.D.Disk c.args.disk.now

pub returns-in-Ok-push-clause-read : goal.returns-in-Ok-push-clause-read
returns-in-Ok-push-clause-read g c = λ m told.
    subst (λ (wanted : Bool). JoinsIf wanted m (written_of c.args.shape.now) c.args.via.now c.args.container.now c.args.rows.now c.push.new.self) (sym c.if-not-wanted.false) (c.in-Ok.lanes, c.in-Ok.ensures.found m told, c.in-Ok-push.ensures)

pub returns-in-Ok-push-clause-wide : goal.returns-in-Ok-push-clause-wide
returns-in-Ok-push-clause-wide g c = λ wide. wide_more (length c.args.via.now) c.args.rows.now c.in-Ok.lanes c.push.new.self wide c.in-Ok.ensures.wide c.in-Ok-push.ensures
