use Rattle.std.proofs.Common.{◌∙◌}
use Rattle.vert_cli.specs.Statements.{fault_of}
use Rattle.vert_cli.proofs.Executing.{mover_failed_at, seen_state}
use Rattle.vert_cli.proofs.Naming.{move_named}
use Rattle.vert_cli.proofs.session.Session.move_on.Goals as goal

pub returns-in-Err-clause-moved : goal.returns-in-Err-clause-moved
returns-in-Err-clause-moved g c = λ state live here.
    mover_failed_at g.D.Disk c.args.steps c.move_steps.new.store c.note.new.self.running c.args.disk.now c.move_steps.new.disk (fault_of c.in-Err.fault) c.note.result state (c.note.ensures.same ∙ c.fault_of.ensures) c.note.ensures.running
    (c.in-Err.ensures.moved state (seen_state g.D.Disk c.self.inside.store c.self.inside.halted c.args.self.now c.args.disk.now state c.self.view_is here))

pub returns-in-Err-clause-named : goal.returns-in-Err-clause-named
returns-in-Err-clause-named g c =
    move_named g.D.Disk c.move_steps.new.store c.note.new.self.running c.move_steps.new.disk c.in-Err.fault c.note.result (c.note.ensures.same ∙ c.fault_of.ensures) c.note.ensures.running c.in-Err.ensures.named
