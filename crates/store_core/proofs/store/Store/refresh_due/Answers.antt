use Rattle.store_core.proofs.Stepping.{nothing_due, refresh_is_due, refreshes_named}
use Rattle.store_core.proofs.store.Store.refresh_due.Goals as goal

pub returns-in-Some-clause-does : goal.returns-in-Some-clause-does
returns-in-Some-clause-does g c = λ state here.
    refresh_is_due g.D.Disk c.args.self.now c.refresh_at.new.self c.in-Some.at.table c.in-Some.at.place c.args.name.now c.refresh_at.result state here c.in-Some.ensures.waits c.in-Some.ensures.stale (c.refresh_at.ensures.does state here)

pub returns-in-None-clause-does : goal.returns-in-None-clause-does
returns-in-None-clause-does g c = λ state here. nothing_due g.D.Disk c.args.self.now c.args.disk.now state here

pub returns-in-Some-clause-refreshes : goal.returns-in-Some-clause-refreshes
returns-in-Some-clause-refreshes g c =
    refreshes_named c.args.self.now c.refresh_at.new.self c.args.name.now c.in-Some.at c.refresh_at.result c.in-Some.ensures.waits c.in-Some.ensures.stale c.refresh_at.ensures.drawn c.refresh_at.ensures.reached c.refresh_at.ensures.asked
