use Rattle.std.proofs.Common.{◌≡◌, ◌∙◌, ap}
use Rattle.store_core.specs.Jobs.{RefreshesAt}
use Rattle.store_core.specs.Running.{running, unworked, Mover}
use Rattle.store_core.proofs.Doing.{behind_work}
use Rattle.store_core.proofs.store.Store.refresh_at.Goals.{in-Some+in-Merge-1, in-None-1}
use Rattle.store_core.proofs.store.Store.refresh_at.Goals as goal

pub returns-clause-does : goal.returns-clause-does
returns-clause-does g c = λ state here.
    let all : running c.self.inside.tables c.self.inside.txns c.self.inside.current c.take_work.new.self ≡ unworked c.args.self.now =
    ap (λ (m : Mover). running c.self.inside.tables c.self.inside.txns c.self.inside.current m) c.take_work.ensures.rest ∙ ap unworked c.self.view_is in
    let same : c.in-Some-Merge-1.self ≡ unworked c.args.self.now = elim c.in-Some-Merge-1.branch [
      | in-Some+in-Merge-1 w ↦ let is = w.self-is in cc
      | in-None-1 w ↦ let is = w.self-is in cc
    ] in
    behind_work g.D.Disk c.args.self.now c.in-Some-Merge-1.self c.refresh_one.new.self c.refresh_one.result state (RefreshesAt c.args.at.table c.args.at.place state) same here (c.refresh_one.ensures.does state)
