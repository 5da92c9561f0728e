use Rattle.shell_run.proofs.Executed.{settles_more}
use Rattle.shell_run.proofs.answering.settle.Goals as goal

pub loop-preserved : goal.loop-preserved
loop-preserved g c = record {
  settles = λ state live here.
      (let so_far = c.loop.invariant.settles state live here in
      settles_more g.D.Disk c.move_on.new.self.running c.loop.disk c.move_on.new.disk state so_far.next so_far.moves c.in-Ok.field-0 so_far.runs
      (c.in-Ok.ensures.moved so_far.next (c.loop.invariant.live live) so_far.stands));
  live = λ live. c.in-Ok.ensures.live;
}
