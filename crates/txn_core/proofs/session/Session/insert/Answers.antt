use Rattle.std.proofs.Common.{◌∙◌, rules}
use Rattle.std.proofs.lemmas.Result.{on_ok_weaker}
use Rattle.db_model.specs.State.{joined}
use Rattle.txn_core.proofs.Changed.{place_changed, place_added, rows_joined}
use Rattle.txn_core.proofs.session.Session.insert.Goals as goal

pub returns-in-Some-clause-pending : goal.returns-in-Some-clause-pending
returns-in-Some-clause-pending c = on_ok_weaker c.join.result
    (λ changed. place_changed c.args.table.now (λ x. joined x c.args.rows.items) c.self.inside.changes.items c.args.self.now c.in-Some.place c.index_mut.result.now c.join.new.self
    c.self.view_is c.in-Some.ensures.found (search rules) changed ∙ rows_joined c.args.table.now c.args.rows.items c.args.self.now)
    c.join.ensures.joined

pub returns-in_ok-push-in-None-clause-pending : goal.returns-in_ok-push-in-None-clause-pending
returns-in_ok-push-in-None-clause-pending c =
    place_added c.args.table.now (λ x. joined x c.args.rows.items) c.self.inside.changes.items c.args.self.now c.push.new.self.items c.join-in-None.new.self
    c.self.view_is c.in-None.ensures.none (search rules) (search rules) ∙ rows_joined c.args.table.now c.args.rows.items c.args.self.now
