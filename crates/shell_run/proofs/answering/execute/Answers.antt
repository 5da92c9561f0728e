use Rattle.shell_run.proofs.Executed.{executes}
use Rattle.shell_run.proofs.answering.execute.Goals as goal

pub returns-in-Ok-taken-clause-executed : goal.returns-in-Ok-taken-clause-executed
returns-in-Ok-taken-clause-executed g c = λ there state content live here.
    executes g.D.Disk there c.args.text.now c.execute.new.self.running c.args.disk.now c.execute.new.disk c.in-Ok.outcome c.refusal_of.result state _ _ c.in-Ok-taken.text.items
    c.new-sink.ensures.taken c.in-Ok-taken.ensures c.refusal_of.ensures (c.in-Ok.ensures.executed there state content live here)
