use Rattle.std.proofs.Common.{rules}
use Rattle.std.proofs.lemmas.Result.{on_ok_weaker}
use Rattle.txn_core.specs.Marking.{marked}
use Rattle.txn_core.proofs.Changed.{place_changed}
use Rattle.txn_core.proofs.session.Session.mark.Goals as goal

pub returns-in-Some-clause-marked : goal.returns-in-Some-clause-marked
returns-in-Some-clause-marked c = on_ok_weaker c.mark.result
    (λ changed. place_changed c.args.table.now (marked c.args.rows.items c.args.deletes.items) c.self.inside.changes.items c.args.self.now c.in-Some.place c.index_mut.result.now c.mark.new.self
    c.self.view_is c.in-Some.ensures.found (search rules) changed)
    c.mark.ensures.marked
