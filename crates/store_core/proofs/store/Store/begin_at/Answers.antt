use Rattle.store_core.proofs.Stepping.{begins_at, begun_at, mover_begun}
use Rattle.store_core.proofs.store.Store.begin_at.Goals as goal

pub returns-in-Some-clause-begun : goal.returns-in-Some-clause-begun
returns-in-Some-clause-begun c =
    begun_at c.self.inside.tables c.self.inside.txns c.self.inside.current c.self.inside.mover c.begin.new.self c.args.self.now c.in-Some.steps c.args.refreshing c.self.view_is c.begin.ensures c.in-Some.ensures.fit

pub returns-in-Some-clause-which : goal.returns-in-Some-clause-which
returns-in-Some-clause-which c =
    begins_at c.args.self.now _ c.args.at c.in-Some.steps c.args.refreshing c.in-Some.ensures.are
    (mover_begun c.self.inside.tables c.self.inside.txns c.self.inside.current c.self.inside.mover c.begin.new.self c.args.self.now c.in-Some.steps c.args.refreshing c.self.view_is c.begin.ensures)
