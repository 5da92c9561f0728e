use Rattle.std.proofs.Common.{◌∙◌, ap}
use Rattle.store_core.specs.Running.{gone_on, running, Mover, Running}
use Rattle.store_core.specs.Stepping.{with_mover}
use Rattle.store_core.proofs.WorkSteps.{goes_on}
use Rattle.store_core.proofs.store.Store.work_step.Goals as goal

pub returns-clause-steps : goal.returns-clause-steps
returns-clause-steps g c = λ state here free more.
    let same = ap (λ (m : Mover). running c.self.inside.tables c.self.inside.txns c.self.inside.current m) c.go_on.ensures ∙ ap (λ (r : Running). with_mover (gone_on r.mover) r) c.self.view_is in
    goes_on g.D.Disk c.args.self.now c.work_on.new.self _ state here free more (c.in-Ok.ensures.works state here) same
