use Rattle.shell_run.proofs.Executed.{tells}
use Rattle.shell_run.proofs.answering.answer.Goals as goal

pub returns-in-Ok-settle-clause-tells : goal.returns-in-Ok-settle-clause-tells
returns-in-Ok-settle-clause-tells g c = λ there state content live here.
    let first = c.in-Ok.ensures.executed there state content live here in
    tells g.D.Disk there c.args.text.now c.execute.new.session.running c.settle.new.session.running c.execute.new.disk c.settle.new.disk state c.in-Ok.told.0.items c.in-Ok.told.1 first
    (c.in-Ok-settle.ensures.settles first.next c.in-Ok.ensures.live first.stands)
