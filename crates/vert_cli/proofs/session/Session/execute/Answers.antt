use Rattle.std.proofs.Common.{◌∙◌}
use Rattle.vert_cli.proofs.Executing.{seen_state, not_answered_at, written_at, worked_at, sink_failed_at, sink_short_at}
use Rattle.vert_cli.proofs.Naming.{step_named}
use Rattle.vert_cli.proofs.Showing.{step_shown}
use Rattle.vert_cli.proofs.session.Session.execute.Goals as goal

pub returns-in-Err-clause-executed : goal.returns-in-Err-clause-executed
returns-in-Err-clause-executed g c = λ there state content live here.
    not_answered_at g.D.Disk there c.args.text.now c.step.new.store c.note.new.self.running c.args.disk.now c.step.new.disk c.in-Err.fault c.note.result state (g.S.Sink.taken c.args.out.now)
    (c.note.ensures.same ∙ c.fault_of_step.ensures) c.note.ensures.running
    (c.in-Err.ensures.steps there state content (seen_state g.D.Disk c.self.inside.store c.self.inside.halted c.args.self.now c.args.disk.now state c.self.view_is here))

pub returns-in-Ok-write_all-clause-executed : goal.returns-in-Ok-write_all-clause-executed
returns-in-Ok-write_all-clause-executed g c = λ there state content live here.
    written_at g.D.Disk there c.args.text.now c.as_slice.result.now c.step.new.store c.args.disk.now c.step.new.disk c.in-Ok.answer c.of.result state (g.S.Sink.taken c.args.out.now) (g.S.Sink.taken c.write_all.new.out)
    c.of.ensures c.as_slice.ensures.value
    (c.in-Ok.ensures.steps there state content (seen_state g.D.Disk c.self.inside.store c.self.inside.halted c.args.self.now c.args.disk.now state c.self.view_is here)) c.in-Ok-write_all.ensures.whole

pub returns-in-Err-Failed-clause-executed : goal.returns-in-Err-Failed-clause-executed
returns-in-Err-Failed-clause-executed g c = λ there state content live here.
    sink_failed_at g.D.Disk there c.args.text.now c.as_slice.result.now c.step.new.store c.args.disk.now c.step.new.disk c.in-Ok.answer state (g.S.Sink.taken c.args.out.now) (g.S.Sink.taken c.write_all.new.out)
    c.as_slice.ensures.value
    (c.in-Ok.ensures.steps there state content (seen_state g.D.Disk c.self.inside.store c.self.inside.halted c.args.self.now c.args.disk.now state c.self.view_is here)) c.in-Err-Failed.ensures.front

pub returns-clause-executed : goal.returns-clause-executed
returns-clause-executed g c = λ there state content live here.
    sink_short_at g.D.Disk there c.args.text.now c.as_slice.result.now c.step.new.store c.args.disk.now c.step.new.disk c.in-Ok.answer state (g.S.Sink.taken c.args.out.now) (g.S.Sink.taken c.write_all.new.out)
    c.as_slice.ensures.value
    (c.in-Ok.ensures.steps there state content (seen_state g.D.Disk c.self.inside.store c.self.inside.halted c.args.self.now c.args.disk.now state c.self.view_is here)) c.in-Err-Memory.ensures.front

pub returns-in-Err-clause-named : goal.returns-in-Err-clause-named
returns-in-Err-clause-named g c =
    step_named g.D.Disk c.step.new.store c.note.new.self.running c.step.new.disk c.in-Err.fault c.note.result (c.note.ensures.same ∙ c.fault_of_step.ensures) c.note.ensures.running c.in-Err.ensures.named

pub returns-in-Ok-write_all-clause-works : goal.returns-in-Ok-write_all-clause-works
returns-in-Ok-write_all-clause-works g c =
    worked_at g.D.Disk c.args.text.now c.self.inside.store c.step.new.store c.self.inside.halted c.args.self.now c.args.disk.now c.in-Ok.answer c.of.result c.self.view_is c.of.ensures c.in-Ok.ensures.works

pub returns-in-Ok-write_all-clause-shows : goal.returns-in-Ok-write_all-clause-shows
returns-in-Ok-write_all-clause-shows g c = λ there state content live here.
    let own = seen_state g.D.Disk c.self.inside.store c.self.inside.halted c.args.self.now c.args.disk.now state c.self.view_is here in
    step_shown g.D.Disk c.one_reading.ensures there c.args.text.now c.self.inside.store c.step.new.store c.args.disk.now c.step.new.disk c.in-Ok.answer c.of.result state c.of.ensures own (c.in-Ok.ensures.steps there state content own) c.in-Ok.ensures.works
