use Rattle.std.proofs.Common.{◌≡◌, ◌+◌, cond, subst, sym, rules}
use Rattle.std.specs.Prelude.{codes, Result, IfErr}
use Rattle.std.proofs.lemmas.Result.{IfErr-weaker}
use Rattle.col_disk.specs.declared.disk.StoreFault.{StoreFault}
use Rattle.col_disk.specs.declared.disk.StoreFault.TheVariants.{Memory}
use Rattle.db_model.specs.Answers.{commit_line}
use Rattle.db_model.specs.Events.{changes_committed}
use Rattle.db_model.specs.Printing.{commit_text}
use Rattle.db_model.specs.State.{has_changes}
use Rattle.sql_tree.specs.declared.statement.Statement.{Statement}
use Rattle.col_disk.specs.Faults.{IsUnblamed}
use Rattle.store_core.specs.Sessions.{own_of}
use Rattle.store_step.specs.declared.answer.Answer.{Answer}
use Rattle.store_step.specs.Arms.{Answers}
use Rattle.store_step.specs.Texts.{Says}
use Rattle.store_step.proofs.Answered.{event_answers, unmade}
use Rattle.store_step.proofs.Doing.{commit_says, committed_event, store_short, store_unblamed}
use Rattle.store_step.proofs.Named.{store_named}
use Rattle.store_step.proofs.events.commit.Goals as goal

pub returns-in-Err-clause-answers : goal.returns-in-Err-clause-answers
returns-in-Err-clause-answers g c = λ files state here accepted. unmade g.D.Disk files _ c.args.store.now c.args.disk.now state here (c.every_image_reopens.ensures c.args.store.now.seen.catalogue c.args.store.now.seen.stores c.args.disk.now state.database here.database)

pub returns-clause-answers : goal.returns-clause-answers
returns-clause-answers g c = λ files state here accepted.
    let r = c.args.store.now in
    let told : Says (cond (has_changes (own_of r)) (commit_line (r.seen.catalogue.last + 1)) (codes "COMMIT\n")) c.printed.result = search rules in
    let unblamed : IfErr c.commit.result IsUnblamed = IfErr-weaker c.commit.result _ _ (λ fault none. none state here) c.commit.ensures.unblamed in
    subst (λ (o : Result Answer StoreFault). Answers g.D.Disk files Statement.Commit c.commit.new.self c.args.disk.now c.commit.new.disk o state) (sym c.in_store.ensures)
    (event_answers g.D.Disk Memory (λ fault. fault) r c.commit.new.self c.commit.result c.printed.result state files Statement.Commit (commit_text state) (λ new. new ≡ changes_committed state) here
    (commit_says g.D.Disk r c.args.disk.now state c.printed.result here told) (committed_event state files accepted here.sound (c.commits_of_a_session_are_sound.ensures state here.sound))
    store_short (store_unblamed c.commit.result unblamed) c.commit.ensures.same (c.commit.ensures.does state here))

pub returns-clause-named : goal.returns-clause-named
returns-clause-named g c = store_named g.D.Disk c.commit.new.self c.commit.new.disk c.printed.result c.commit.result c.in_store.result c.in_store.ensures c.commit.ensures.named
