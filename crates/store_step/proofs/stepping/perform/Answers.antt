use Rattle.std.proofs.Common.{◌≡◌, rules}
use Rattle.sql_tree.specs.declared.statement.Statement.{Statement}
use Rattle.statement_plan.specs.Planned.{IsPlanned}
use Rattle.statement_plan.specs.declared.plans.Plan.{Plan}
use Rattle.store_step.proofs.Answered.{memory_answers, same_answers}
use Rattle.store_step.proofs.Named.{memory_named}
use Rattle.store_step.proofs.Works.{no_work, same_works}
use Rattle.store_step.proofs.stepping.perform.Goals as goal

pub returns-in-Insert-Insert-clause-answers : goal.returns-in-Insert-Insert-clause-answers
returns-in-Insert-Insert-clause-answers g c = λ files state here.
    let s = Statement.Insert c.in-Insert-Insert.insert in
    let is : c.args.statement ≡ s = search rules in
    let all = c.frames_are_of_the_state.ensures.plan c.args.disk.now c.args.store.now state c.args.statement c.args.plan here c.requires.planned in
    let planned : IsPlanned state s (Plan.Insert c.in-Insert-Insert.rows) = rw (c.in-Insert-Insert.is-0, c.in-Insert-Insert.is-1) at all in
    memory_answers g.D.Disk files c.args.statement s c.insert_rows.new.store c.args.disk.now c.insert_rows.result c.in_memory.result state is c.in_memory.ensures here.sound.database (c.every_image_reopens.ensures c.args.store.now.seen.catalogue c.args.store.now.seen.stores c.args.disk.now state.database here.database) (c.insert_rows.ensures files c.args.disk.now state here planned.of.0 planned.accepted)

pub returns-in-Delete-Delete-clause-answers : goal.returns-in-Delete-Delete-clause-answers
returns-in-Delete-Delete-clause-answers g c = λ files state here.
    let s = Statement.Delete c.in-Delete-Delete.delete in
    let is : c.args.statement ≡ s = search rules in
    same_answers g.D.Disk files c.args.statement s c.delete_rows.new.store c.delete_rows.result state is (c.delete_rows.ensures.answers files state here)

pub returns-in-Update-Update-clause-answers : goal.returns-in-Update-Update-clause-answers
returns-in-Update-Update-clause-answers g c = λ files state here.
    let s = Statement.Update c.in-Update-Update.update in
    let is : c.args.statement ≡ s = search rules in
    same_answers g.D.Disk files c.args.statement s c.update_rows.new.store c.update_rows.result state is (c.update_rows.ensures.answers files state here)

pub returns-in-Commit-default-clause-answers : goal.returns-in-Commit-default-clause-answers
returns-in-Commit-default-clause-answers g c = λ files state here.
    let s = Statement.Commit in
    let is : c.args.statement ≡ s = search rules in
    let all = c.frames_are_of_the_state.ensures.plan c.args.disk.now c.args.store.now state c.args.statement c.args.plan here c.requires.planned in
    let planned : IsPlanned state s c.args.plan = rw c.in-Commit-default.is-0 at all in
    same_answers g.D.Disk files c.args.statement s c.commit.new.store c.commit.result state is (c.commit.ensures.answers files state here planned.accepted)

pub returns-in-Rollback-default-clause-answers : goal.returns-in-Rollback-default-clause-answers
returns-in-Rollback-default-clause-answers g c = λ files state here.
    let s = Statement.Rollback in
    let is : c.args.statement ≡ s = search rules in
    let all = c.frames_are_of_the_state.ensures.plan c.args.disk.now c.args.store.now state c.args.statement c.args.plan here c.requires.planned in
    let planned : IsPlanned state s c.args.plan = rw c.in-Rollback-default.is-0 at all in
    memory_answers g.D.Disk files c.args.statement s c.roll_back.new.store c.args.disk.now c.roll_back.result c.in_memory-in-Rollback-default.result state is c.in_memory-in-Rollback-default.ensures here.sound.database (c.every_image_reopens.ensures c.args.store.now.seen.catalogue c.args.store.now.seen.stores c.args.disk.now state.database here.database) (c.roll_back.ensures files c.args.disk.now state here)

pub returns-in-Select-Select-clause-answers : goal.returns-in-Select-Select-clause-answers
returns-in-Select-Select-clause-answers g c = λ files state here.
    let s = Statement.Select c.in-Select-Select.at c.in-Select-Select.query in
    let is : c.args.statement ≡ s = search rules in
    let all = c.frames_are_of_the_state.ensures.plan c.args.disk.now c.args.store.now state c.args.statement c.args.plan here c.requires.planned in
    let planned : IsPlanned state s (Plan.Select c.in-Select-Select.bound) = rw (c.in-Select-Select.is-0, c.in-Select-Select.is-1) at all in
    same_answers g.D.Disk files c.args.statement s c.args.store.now c.select.result state is (c.select.ensures.answers files state here planned.of planned.accepted)

pub returns-in-Explain-Explain-clause-answers : goal.returns-in-Explain-Explain-clause-answers
returns-in-Explain-Explain-clause-answers g c = λ files state here.
    let s = Statement.Explain c.in-Explain-Explain.query in
    let is : c.args.statement ≡ s = search rules in
    let all = c.frames_are_of_the_state.ensures.plan c.args.disk.now c.args.store.now state c.args.statement c.args.plan here c.requires.planned in
    let planned : IsPlanned state s (Plan.Explain c.in-Explain-Explain.bound) = rw (c.in-Explain-Explain.is-0, c.in-Explain-Explain.is-1) at all in
    memory_answers g.D.Disk files c.args.statement s c.args.store.now c.args.disk.now c.explain_query.result c.in_memory-in-Explain-Explain.result state is c.in_memory-in-Explain-Explain.ensures here.sound.database (c.every_image_reopens.ensures c.args.store.now.seen.catalogue c.args.store.now.seen.stores c.args.disk.now state.database here.database) (c.explain_query.ensures files c.args.disk.now state here planned.of.tree planned.accepted)

pub returns-in-Call-Call-clause-answers : goal.returns-in-Call-Call-clause-answers
returns-in-Call-Call-clause-answers g c = λ files state here.
    let s = Statement.Call c.in-Call-Call.function in
    let is : c.args.statement ≡ s = search rules in
    let all = c.frames_are_of_the_state.ensures.plan c.args.disk.now c.args.store.now state c.args.statement c.args.plan here c.requires.planned in
    let planned : IsPlanned state s c.args.plan = rw c.in-Call-Call.is-0 at all in
    same_answers g.D.Disk files c.args.statement s c.call.new.store c.call.result state is (c.call.ensures.answers files state here planned.accepted)

pub returns-in-Call-CallOn-clause-answers : goal.returns-in-Call-CallOn-clause-answers
returns-in-Call-CallOn-clause-answers g c = λ files state here.
    let s = Statement.Call c.in-Call-CallOn.function in
    let is : c.args.statement ≡ s = search rules in
    let all = c.frames_are_of_the_state.ensures.plan c.args.disk.now c.args.store.now state c.args.statement c.args.plan here c.requires.planned in
    let planned : IsPlanned state s c.args.plan = rw c.in-Call-CallOn.is-0 at all in
    same_answers g.D.Disk files c.args.statement s c.call_on.new.store c.call_on.result state is (c.call_on.ensures.answers files state here planned.accepted)

pub returns-in-Session-default-clause-answers : goal.returns-in-Session-default-clause-answers
returns-in-Session-default-clause-answers g c = λ files state here.
    let s = Statement.Session c.in-Session-default.number in
    let is : c.args.statement ≡ s = search rules in
    let all = c.frames_are_of_the_state.ensures.plan c.args.disk.now c.args.store.now state c.args.statement c.args.plan here c.requires.planned in
    let planned : IsPlanned state s c.args.plan = rw c.in-Session-default.is-0 at all in
    memory_answers g.D.Disk files c.args.statement s c.use_session.new.store c.args.disk.now c.use_session.result c.in_memory-in-Session-default.result state is c.in_memory-in-Session-default.ensures here.sound.database (c.every_image_reopens.ensures c.args.store.now.seen.catalogue c.args.store.now.seen.stores c.args.disk.now state.database here.database) (c.use_session.ensures files c.args.disk.now state here)

pub returns-in-Step-default-clause-answers : goal.returns-in-Step-default-clause-answers
returns-in-Step-default-clause-answers g c = λ files state here.
    let s = Statement.Step in
    let is : c.args.statement ≡ s = search rules in
    let all = c.frames_are_of_the_state.ensures.plan c.args.disk.now c.args.store.now state c.args.statement c.args.plan here c.requires.planned in
    let planned : IsPlanned state s c.args.plan = rw c.in-Step-default.is-0 at all in
    same_answers g.D.Disk files c.args.statement s c.step_mover.new.store c.step_mover.result state is (c.step_mover.ensures.answers files state here)

pub returns-in-Insert-Insert-clause-named : goal.returns-in-Insert-Insert-clause-named
returns-in-Insert-Insert-clause-named g c = memory_named g.D.Disk c.insert_rows.new.store c.args.disk.now c.insert_rows.result c.in_memory.result c.in_memory.ensures

pub returns-in-Rollback-default-clause-named : goal.returns-in-Rollback-default-clause-named
returns-in-Rollback-default-clause-named g c = memory_named g.D.Disk c.roll_back.new.store c.args.disk.now c.roll_back.result c.in_memory-in-Rollback-default.result c.in_memory-in-Rollback-default.ensures

pub returns-in-Explain-Explain-clause-named : goal.returns-in-Explain-Explain-clause-named
returns-in-Explain-Explain-clause-named g c = memory_named g.D.Disk c.args.store.now c.args.disk.now c.explain_query.result c.in_memory-in-Explain-Explain.result c.in_memory-in-Explain-Explain.ensures

pub returns-in-Session-default-clause-named : goal.returns-in-Session-default-clause-named
returns-in-Session-default-clause-named g c = memory_named g.D.Disk c.use_session.new.store c.args.disk.now c.use_session.result c.in_memory-in-Session-default.result c.in_memory-in-Session-default.ensures

pub returns-in-Insert-Insert-clause-works : goal.returns-in-Insert-Insert-clause-works
returns-in-Insert-Insert-clause-works g c = no_work g.D.Disk c.args.store.now c.insert_rows.new.store c.args.disk.now c.args.statement (Statement.Insert c.in-Insert-Insert.insert) c.in_memory.result c.in-Insert-Insert.is-0 tt

pub returns-in-Delete-Delete-clause-works : goal.returns-in-Delete-Delete-clause-works
returns-in-Delete-Delete-clause-works g c = no_work g.D.Disk c.args.store.now c.delete_rows.new.store c.args.disk.now c.args.statement (Statement.Delete c.in-Delete-Delete.delete) c.delete_rows.result c.in-Delete-Delete.is-0 tt

pub returns-in-Update-Update-clause-works : goal.returns-in-Update-Update-clause-works
returns-in-Update-Update-clause-works g c = no_work g.D.Disk c.args.store.now c.update_rows.new.store c.args.disk.now c.args.statement (Statement.Update c.in-Update-Update.update) c.update_rows.result c.in-Update-Update.is-0 tt

pub returns-in-Commit-default-clause-works : goal.returns-in-Commit-default-clause-works
returns-in-Commit-default-clause-works g c = no_work g.D.Disk c.args.store.now c.commit.new.store c.args.disk.now c.args.statement (Statement.Commit) c.commit.result c.in-Commit-default.is-0 tt

pub returns-in-Rollback-default-clause-works : goal.returns-in-Rollback-default-clause-works
returns-in-Rollback-default-clause-works g c = no_work g.D.Disk c.args.store.now c.roll_back.new.store c.args.disk.now c.args.statement (Statement.Rollback) c.in_memory-in-Rollback-default.result c.in-Rollback-default.is-0 tt

pub returns-in-Select-Select-clause-works : goal.returns-in-Select-Select-clause-works
returns-in-Select-Select-clause-works g c = no_work g.D.Disk c.args.store.now c.args.store.now c.args.disk.now c.args.statement (Statement.Select c.in-Select-Select.at c.in-Select-Select.query) c.select.result c.in-Select-Select.is-0 tt

pub returns-in-Explain-Explain-clause-works : goal.returns-in-Explain-Explain-clause-works
returns-in-Explain-Explain-clause-works g c = no_work g.D.Disk c.args.store.now c.args.store.now c.args.disk.now c.args.statement (Statement.Explain c.in-Explain-Explain.query) c.in_memory-in-Explain-Explain.result c.in-Explain-Explain.is-0 tt

pub returns-in-Session-default-clause-works : goal.returns-in-Session-default-clause-works
returns-in-Session-default-clause-works g c = no_work g.D.Disk c.args.store.now c.use_session.new.store c.args.disk.now c.args.statement (Statement.Session c.in-Session-default.number) c.in_memory-in-Session-default.result c.in-Session-default.is-0 tt

pub returns-in-Step-default-clause-works : goal.returns-in-Step-default-clause-works
returns-in-Step-default-clause-works g c = no_work g.D.Disk c.args.store.now c.step_mover.new.store c.args.disk.now c.args.statement (Statement.Step) c.step_mover.result c.in-Step-default.is-0 tt

pub returns-in-Call-Call-clause-works : goal.returns-in-Call-Call-clause-works
returns-in-Call-Call-clause-works g c =
    let s = Statement.Call c.in-Call-Call.function in
    let is : c.args.statement ≡ s = search rules in
    same_works g.D.Disk c.args.store.now c.call.new.store c.args.disk.now c.args.statement s c.call.result is c.call.ensures.works

pub returns-in-Call-CallOn-clause-works : goal.returns-in-Call-CallOn-clause-works
returns-in-Call-CallOn-clause-works g c =
    let s = Statement.Call c.in-Call-CallOn.function in
    let is : c.args.statement ≡ s = search rules in
    same_works g.D.Disk c.args.store.now c.call_on.new.store c.args.disk.now c.args.statement s c.call_on.result is c.call_on.ensures.works

pub returns-in_default-clause-answers : goal.returns-in_default-clause-answers
returns-in_default-clause-answers g c = λ files state here.
    same_answers g.D.Disk files c.args.statement _ c.change_schema.new.store c.change_schema.result state (search rules) (c.change_schema.ensures.answers files state here)
