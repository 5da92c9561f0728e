use Rattle.store_core.proofs.Stepping.{begin_step, move_step}
use Rattle.store_core.proofs.store.Store.move_or_begin.Goals as goal

pub returns-in-Ok-true-clause-steps : goal.returns-in-Ok-true-clause-steps
returns-in-Ok-true-clause-steps g c = λ state here free idle.
    move_step g.D.Disk c.args.self.now c.move_first.new.self c.in-Ok-true.field-0 state c.in-Ok-true.field-0-test free idle (c.in-Ok-true.ensures.does state here)

pub returns-in-Ok-clause-steps : goal.returns-in-Ok-clause-steps
returns-in-Ok-clause-steps g c = λ state here free idle.
    begin_step g.D.Disk c.args.self.now c.move_first.new.self c.begin_job.new.self c.in-Ok-false.field-0 state c.in-Ok-false.field-0-test free idle (c.in-Ok-false.ensures.does state here) c.in-Ok.ensures.begun
