use Rattle.vert_cli.proofs.Executing.{text_stopped, text_ran, mover_stopped}
use Rattle.vert_cli.proofs.Showing.{text_left}
use Rattle.vert_cli.proofs.script.run_text.Goals as goal

pub returns-in-Err-clause-ran : goal.returns-in-Err-clause-ran
returns-in-Err-clause-ran g c = λ there state halts content here.
    text_stopped g.D.Disk there c.args.steps halts c.args.text.now c.execute.new.self.running c.args.disk.now c.execute.new.disk c.in-Err.fault state (g.S.Sink.taken c.args.out.now) (g.S.Sink.taken c.execute.new.out)
    (c.in-Err.ensures.executed there state content c.requires.live here)

pub returns-in-Ok-move_on-clause-ran : goal.returns-in-Ok-move_on-clause-ran
returns-in-Ok-move_on-clause-ran g c = λ there state halts content here.
    text_ran g.D.Disk there c.args.steps halts c.args.text.now c.args.session.now.running c.execute.new.self.running c.move_on.new.self.running c.args.disk.now c.execute.new.disk c.move_on.new.disk c.in-Ok.outcome c.in-Ok-move_on.field-0
    c.is_refused-refused.result state (g.S.Sink.taken c.args.out.now) (g.S.Sink.taken c.execute.new.out) c.is_refused-refused.ensures here (c.in-Ok.ensures.executed there state content c.requires.live here)
    (λ answered stands. c.in-Ok-move_on.ensures.moved answered c.in-Ok.ensures.live stands)

pub returns-in-Err-move_on-clause-ran : goal.returns-in-Err-move_on-clause-ran
returns-in-Err-move_on-clause-ran g c = λ there state halts content here.
    mover_stopped g.D.Disk there c.args.steps halts c.args.text.now c.args.session.now.running c.execute.new.self.running c.move_on.new.self.running c.args.disk.now c.execute.new.disk c.move_on.new.disk c.in-Ok.outcome c.in-Err-move_on.fault
    state (g.S.Sink.taken c.args.out.now) (g.S.Sink.taken c.execute.new.out) here (c.in-Ok.ensures.executed there state content c.requires.live here)
    (λ answered stands. c.in-Err-move_on.ensures.moved answered c.in-Ok.ensures.live stands)

pub returns-in-Ok-move_on-clause-shows : goal.returns-in-Ok-move_on-clause-shows
returns-in-Ok-move_on-clause-shows g c = λ there state content here none.
    text_left g.D.Disk c.args.text.now c.in-Ok.outcome c.is_refused-refused.result c.execute.new.disk c.move_on.new.disk c.is_refused-refused.ensures (c.in-Ok-move_on.ensures.still none)
    (c.in-Ok.ensures.shows there state content c.requires.live here)
