use Rattle.std.proofs.Common.{◌≡◌, ◌+◌, [], true, false, refl, rules, sym, subst, ap, ◌∙◌}
use Rattle.std.specs.Prelude.{Ok, Err}
use Rattle.col_disk.specs.declared.disk.StoreFault.TheVariants.{Memory}
use Rattle.db_model.specs.Events.{rows_loaded, rows_pending}
use Rattle.db_model.specs.Sound.{IsSound}
use Rattle.db_model.specs.State.{has_changes, with_rows}
use Rattle.store_commit.specs.Seen.{Stands, Seen}
use Rattle.store_core.specs.Running.{Running, running}
use Rattle.table_store.specs.Faults.{BlamesStored}
use Rattle.store_core.proofs.Doing.{does_failed}
use Rattle.store_core.proofs.Loaded.{load_at, load_idle, load_short}
use Rattle.store_core.proofs.Sessions.{put_at}
use Rattle.store_core.proofs.Named.{stored_named}
use Rattle.store_core.proofs.store.Store.load.Goals as goal

pub returns-in-Err-clause-does : goal.returns-in-Err-clause-does
returns-in-Err-clause-does g c = λ state t here there fit free. load_short g.D.Disk c.args.disk.now c.args.self.now state (λ new. new ≡ rows_loaded c.args.name.now c.args.rows.items state) here

pub returns-then-not-has_changes-clause-does : goal.returns-then-not-has_changes-clause-does
returns-then-not-has_changes-clause-does g c = λ state t here there fit free.
    let name = c.args.name.now in
    let rows = c.args.rows.items in
    let pending : IsSound (rows_pending name rows state) = c.pending_rows_are_sound.ensures state name rows t there fit free here.sound in
    let none : has_changes c.in-Ok.session ≡ false = search rules in
    load_idle g.D.Disk c.args.disk.now c.self.inside.tables c.self.inside.txns c.take.new.self c.self.inside.current c.self.inside.mover c.args.self.now state name rows c.in-Ok.session c.self.view_is
    (c.in-Ok.ensures ∙ ap (with_rows name rows) c.session.ensures) none here pending (c.commits_of_a_session_are_sound.ensures (rows_pending name rows state) pending) c.take.ensures.left

pub returns-in-Err-commit-clause-does : goal.returns-in-Err-commit-clause-does
returns-in-Err-commit-clause-does g c = λ state t here there fit free.
    let name = c.args.name.now in
    let rows = c.args.rows.items in
    let was = c.self.inside.tables in
    let sessions = c.self.inside.txns in
    let current = c.self.inside.current in
    let mover = c.self.inside.mover in
    let pending : IsSound (rows_pending name rows state) = c.pending_rows_are_sound.ensures state name rows t there fit free here.sound in
    let has : has_changes c.in-Ok.session ≡ true = search rules in
    does_failed g.D.Disk Memory c.args.self.now (running c.commit.new.self (put_at [] sessions current) current mover) _ c.in-Err-commit.fault state (λ new. new ≡ rows_loaded name rows state)
    (load_at g.D.Disk was c.commit.new.self sessions (put_at [] sessions current) current mover c.args.self.now (Err c.in-Err-commit.fault) state name rows c.in-Ok.session (was.catalogue.last + 1) c.self.view_is
    (c.in-Ok.ensures ∙ ap (with_rows name rows) c.session.ensures) has here pending (c.commits_of_a_session_are_sound.ensures (rows_pending name rows state) pending) refl c.in-Err-commit.ensures.unwritten c.in-Err-commit.ensures.made c.in-Err-commit.ensures.catalogue)

pub returns-in-Err-commit-clause-unblamed : goal.returns-in-Err-commit-clause-unblamed
returns-in-Err-commit-clause-unblamed g c = λ state here. c.in-Err-commit.ensures.unblamed state.database (subst (λ (r : Running). Stands g.D.Disk r.seen c.args.disk.now state.database) (sym c.self.view_is) here.database)

pub returns-clause-does : goal.returns-clause-does
returns-clause-does g c = λ state t here there fit free.
    let name = c.args.name.now in
    let rows = c.args.rows.items in
    let was = c.self.inside.tables in
    let pending : IsSound (rows_pending name rows state) = c.pending_rows_are_sound.ensures state name rows t there fit free here.sound in
    let has : has_changes c.in-Ok.session ≡ true = search rules in
    load_at g.D.Disk was c.commit.new.self c.self.inside.txns c.take-2.new.self c.self.inside.current c.self.inside.mover c.args.self.now (Ok tt) state name rows c.in-Ok.session (was.catalogue.last + 1) c.self.view_is
    (c.in-Ok.ensures ∙ ap (with_rows name rows) c.session.ensures) has here pending (c.commits_of_a_session_are_sound.ensures (rows_pending name rows state) pending) c.take-2.ensures.left c.in-Ok-commit.ensures.unwritten c.in-Ok-commit.ensures.made c.in-Ok-commit.ensures.catalogue

pub returns-in-Err-commit-clause-blamed : goal.returns-in-Err-commit-clause-blamed
returns-in-Err-commit-clause-blamed g c = subst (λ (r : Running). BlamesStored r.seen.stores (g.D.Disk.holds c.args.disk.now) c.in-Err-commit.fault) c.self.view_is c.in-Err-commit.ensures.blamed

pub returns-in-Err-commit-clause-named : goal.returns-in-Err-commit-clause-named
returns-in-Err-commit-clause-named g c =
    stored_named g.D.Disk (running c.commit.new.self c.self.inside.txns c.self.inside.current c.self.inside.mover) c.args.disk.now c.commit.new.disk c.in-Err-commit.fault c.in-Err-commit.ensures.unwritten
    (subst (λ (s : Seen). BlamesStored s.stores (g.D.Disk.holds c.args.disk.now) c.in-Err-commit.fault) (sym c.in-Err-commit.ensures.same) c.in-Err-commit.ensures.blamed)
