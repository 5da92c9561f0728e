use Rattle.store_core.proofs.Stepping.{dropped_at, job_failed, job_over}
use Rattle.store_core.proofs.store.Store.finish.Goals as goal

pub returns-in-Err-clause-does : goal.returns-in-Err-clause-does
returns-in-Err-clause-does g c = λ state here. job_failed g.D.Disk c.args.self.now c.install.new.self _ c.in-Err.fault state (c.in-Err.ensures.does state here)

pub returns-clause-does : goal.returns-clause-does
returns-clause-does g c = λ state here.
    job_over g.D.Disk c.args.self.now c.install.new.self _ state
    (dropped_at c.self.inside.tables c.self.inside.txns c.self.inside.current c.self.inside.mover c.drop_job.new.self c.install.new.self c.self.view_is c.drop_job.ensures) (c.in-Ok.ensures.does state here)

pub returns-clause-refreshes : goal.returns-clause-refreshes
returns-clause-refreshes g c = λ name is. (
  c.install.new.self,
  c.in-Ok.ensures.refreshes name is,
  dropped_at c.self.inside.tables c.self.inside.txns c.self.inside.current c.self.inside.mover c.drop_job.new.self c.install.new.self c.self.view_is c.drop_job.ensures,
)
