use Rattle.std.proofs.Common.{◌≡◌, ◌+◌, ◌∙◌, List, [], true, false, refl, rules, sym, ap, ap₂, subst}
use Rattle.std.specs.Prelude.{Ok, Err}
use Rattle.col_disk.specs.declared.disk.StoreFault.TheVariants.{Memory}
use Rattle.db_model.specs.State.{Changes, has_changes}
use Rattle.db_model.specs.Events.{changes_committed}
use Rattle.store_core.specs.Running.{Mover, Running, running, unworked}
use Rattle.store_commit.specs.Seen.{Seen, Stands}
use Rattle.table_store.specs.Faults.{BlamesStored}
use Rattle.store_core.proofs.Doing.{does_failed}
use Rattle.store_core.proofs.Sessions.{put_at, put_back, commit_at, idle_at}
use Rattle.store_core.proofs.Named.{stored_named}
use Rattle.store_core.proofs.store.Store.commit.Goals as goal

pub returns-then-not-has_changes-clause-does : goal.returns-then-not-has_changes-clause-does
returns-then-not-has_changes-clause-does g c = λ state here.
    let none : has_changes c.session.result.now ≡ false = search rules in
    idle_at g.D.Disk c.args.disk.now c.self.inside.tables c.self.inside.txns c.take.new.self c.self.inside.current c.self.inside.mover c.args.self.now state c.session.result.now c.self.view_is c.session.ensures none here
    (c.commits_of_a_session_are_sound.ensures state here.sound) c.take.ensures.left

pub returns-in-Err-clause-does : goal.returns-in-Err-clause-does
returns-in-Err-clause-does g c = λ state here.
    let was = c.self.inside.tables in
    let sessions = c.self.inside.txns in
    let current = c.self.inside.current in
    let mover = c.self.inside.mover in
    let some : has_changes c.session.result.now ≡ true = search rules in
    let has : has_changes c.take-changes.result ≡ true = ap has_changes (c.take-changes.ensures.taken ∙ sym c.session.ensures) ∙ some in
    does_failed g.D.Disk Memory c.args.self.now (running c.commit.new.self (put_at [] sessions current) current mover) _ c.in-Err.fault state (λ after. after ≡ changes_committed state)
    (commit_at g.D.Disk was c.commit.new.self sessions (put_at [] sessions current) current mover c.args.self.now (Err c.in-Err.fault) state c.take-changes.result (was.catalogue.last + 1) c.self.view_is c.take-changes.ensures.taken has here
    (c.commits_of_a_session_are_sound.ensures state here.sound) refl c.in-Err.ensures.unwritten c.in-Err.ensures.made c.in-Err.ensures.catalogue)

pub returns-in-Ok-clause-does : goal.returns-in-Ok-clause-does
returns-in-Ok-clause-does g c = λ state here.
    let was = c.self.inside.tables in
    let sessions = c.self.inside.txns in
    let current = c.self.inside.current in
    let mover = c.self.inside.mover in
    let some : has_changes c.session.result.now ≡ true = search rules in
    let has : has_changes c.take-changes.result ≡ true = ap has_changes (c.take-changes.ensures.taken ∙ sym c.session.ensures) ∙ some in
    commit_at g.D.Disk was c.commit.new.self sessions c.take-changes.new.self current mover c.args.self.now (Ok tt) state c.take-changes.result (was.catalogue.last + 1) c.self.view_is c.take-changes.ensures.taken has here
    (c.commits_of_a_session_are_sound.ensures state here.sound) c.take-changes.ensures.left c.in-Ok.ensures.unwritten c.in-Ok.ensures.made c.in-Ok.ensures.catalogue

pub returns-in-Err-clause-same : goal.returns-in-Err-clause-same
returns-in-Err-clause-same g c =
    let current = c.self.inside.current in
    let back : c.put.new.self ≡ c.self.inside.txns =
    c.put.ensures ∙ ap₂ (λ (xs : List (List Changes)) (own : List Changes). put_at own xs current) c.take-changes.ensures.left c.in-Err.ensures.kept
    ∙ put_back c.take-changes.result c.self.inside.txns current c.take-changes.ensures.taken in
    ap₂ (λ (seen : Seen) (xs : List (List Changes)). running seen xs current c.drop_work.new.self) c.in-Err.ensures.same back
    ∙ ap (λ (m : Mover). running c.self.inside.tables c.self.inside.txns current m) c.drop_work.ensures ∙ ap unworked c.self.view_is

pub returns-in-Err-clause-unblamed : goal.returns-in-Err-clause-unblamed
returns-in-Err-clause-unblamed g c = λ state here. c.in-Err.ensures.unblamed state.database (subst (λ (r : Running). Stands g.D.Disk r.seen c.args.disk.now state.database) (sym c.self.view_is) here.database)

pub returns-in-Err-clause-blamed : goal.returns-in-Err-clause-blamed
returns-in-Err-clause-blamed g c = subst (λ (r : Running). BlamesStored r.seen.stores (g.D.Disk.holds c.args.disk.now) c.in-Err.fault) c.self.view_is c.in-Err.ensures.blamed

pub returns-in-Err-clause-named : goal.returns-in-Err-clause-named
returns-in-Err-clause-named g c =
    stored_named g.D.Disk (running c.commit.new.self c.put.new.self c.self.inside.current c.drop_work.new.self) c.args.disk.now c.commit.new.disk c.in-Err.fault c.in-Err.ensures.unwritten
    (subst (λ (s : Seen). BlamesStored s.stores (g.D.Disk.holds c.args.disk.now) c.in-Err.fault) (sym c.in-Err.ensures.same) c.in-Err.ensures.blamed)
