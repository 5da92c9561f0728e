use Rattle.std.proofs.Common.{◌≡◌, ◌∙◌, ap}
use Rattle.store_core.specs.Jobs.{RisesAt}
use Rattle.store_core.specs.Running.{running, unworked, Mover}
use Rattle.store_core.proofs.Doing.{behind_work}
use Rattle.store_core.proofs.store.Store.merge_next.Goals.{in-Some+in-Refresh-1, in-None-1}
use Rattle.store_core.proofs.store.Store.merge_next.Goals as goal

pub returns-clause-does : goal.returns-clause-does
returns-clause-does g c = λ state here.
    let all : running c.self.inside.tables c.self.inside.txns c.self.inside.current c.take_work.new.self ≡ unworked c.args.self.now =
    ap (λ (m : Mover). running c.self.inside.tables c.self.inside.txns c.self.inside.current m) c.take_work.ensures.rest ∙ ap unworked c.self.view_is in
    let same : c.in-Some-Refresh-1.self ≡ unworked c.args.self.now = elim c.in-Some-Refresh-1.branch [
      | in-Some+in-Refresh-1 w ↦ let is = w.self-is in cc
      | in-None-1 w ↦ let is = w.self-is in cc
    ] in
    behind_work g.D.Disk c.args.self.now c.in-Some-Refresh-1.self c.merge_one.new.self c.merge_one.result state (RisesAt c.args.next.at.table c.args.next.at.place state) same here (c.merge_one.ensures.does state)
