use Rattle.std.proofs.Common.{◌∙◌, rules}
use Rattle.txn_core.proofs.Taken.{taken_at, left_at, none_taken, none_left}
use Rattle.txn_core.proofs.session.Session.take_rows.Goals as goal

pub returns-in-Some-clause-rows : goal.returns-in-Some-clause-rows
returns-in-Some-clause-rows c =
    c.take_rows.ensures.rows ∙ taken_at c.args.table.now c.self.inside.changes.items c.args.self.now c.in-Some.place c.index_mut.result.now c.self.view_is c.in-Some.ensures.found (search rules)

pub returns-in-Some-clause-left : goal.returns-in-Some-clause-left
returns-in-Some-clause-left c =
    left_at c.args.table.now c.self.inside.changes.items c.args.self.now c.in-Some.place c.index_mut.result.now c.take_rows.new.self c.self.view_is c.in-Some.ensures.found (search rules) c.take_rows.ensures.left

pub returns-in-None-clause-rows : goal.returns-in-None-clause-rows
returns-in-None-clause-rows c = c.new.ensures.items ∙ none_taken c.args.table.now c.args.self.now c.in-None.ensures.none

pub returns-in-None-clause-left : goal.returns-in-None-clause-left
returns-in-None-clause-left c = none_left c.args.table.now c.args.self.now c.in-None.ensures.none
