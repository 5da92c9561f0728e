use Rattle.store_core.proofs.Stepping.{merge_is_due, nothing_due}
use Rattle.store_core.proofs.store.Store.merge_due.Goals as goal

pub returns-in-Some-clause-does : goal.returns-in-Some-clause-does
returns-in-Some-clause-does g c = λ state here.
    merge_is_due g.D.Disk c.args.self.now c.merge_next.new.self c.in-Some.next.at.table c.in-Some.next.at.place c.merge_next.result state here (c.merge_next.ensures.does state here)

pub returns-in-None-clause-does : goal.returns-in-None-clause-does
returns-in-None-clause-does g c = λ state here. nothing_due g.D.Disk c.args.self.now c.args.disk.now state here
