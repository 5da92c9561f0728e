use Rattle.std.proofs.Common.{◌≡◌, None, rules}
use Rattle.db_model.specs.Refusals.{unknown_table_refusal}
use Rattle.sql_tree.specs.declared.statement.Function.{Function}
use Rattle.sql_tree.specs.declared.statement.Statement.{Statement}
use Rattle.store_step.proofs.Answered.{same_answers}
use Rattle.store_step.proofs.Works.{no_work, same_works}
use Rattle.store_step.proofs.stepping.call_on.Goals as goal

pub returns-in-Purge-clause-answers : goal.returns-in-Purge-clause-answers
returns-in-Purge-clause-answers g c = λ files state here free.
    let n = c.as_slice.result.now in
    let is : Statement.Call c.args.function.now ≡ Statement.Call (Function.Purge n) = search rules in
    let known : unknown_table_refusal state n ≡ None = search (rules, free) in
    same_answers g.D.Disk files _ (Statement.Call (Function.Purge n)) c.purge_table.new.store c.purge_table.result state is (c.purge_table.ensures.answers files state here known)

pub returns-in-Refresh-clause-answers : goal.returns-in-Refresh-clause-answers
returns-in-Refresh-clause-answers g c = λ files state here free.
    let n = c.as_slice-in-Refresh.result.now in
    let is : Statement.Call c.args.function.now ≡ Statement.Call (Function.Refresh n) = search rules in
    let known : unknown_table_refusal state n ≡ None = search (rules, free) in
    same_answers g.D.Disk files _ (Statement.Call (Function.Refresh n)) c.refresh_table.new.store c.refresh_table.result state is (c.refresh_table.ensures.answers files state here known)

pub returns-in-Purge-clause-works : goal.returns-in-Purge-clause-works
returns-in-Purge-clause-works g c =
    let n = c.as_slice.result.now in
    let is : Statement.Call c.args.function.now ≡ Statement.Call (Function.Purge n) = search rules in
    same_works g.D.Disk c.args.store.now c.purge_table.new.store c.args.disk.now _ (Statement.Call (Function.Purge n)) c.purge_table.result is c.purge_table.ensures.works

pub returns-in-Refresh-clause-works : goal.returns-in-Refresh-clause-works
returns-in-Refresh-clause-works g c =
    let n = c.as_slice-in-Refresh.result.now in
    let is : Statement.Call c.args.function.now ≡ Statement.Call (Function.Refresh n) = search rules in
    no_work g.D.Disk c.args.store.now c.refresh_table.new.store c.args.disk.now _ (Statement.Call (Function.Refresh n)) c.refresh_table.result is tt
