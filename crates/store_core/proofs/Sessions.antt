-- What is done to the sessions, over a running store.
use Rattle.std.proofs.Common.{◌≡◌, ◌-◌, inl, inr, ℕ, Bool, true, false, cond, List, [], refl, sym, ◌∙◌, ap, subst, set-set}
use Rattle.std.specs.Prelude.{Result, Ok, Err, OnOk, slice_set}
use Rattle.std.specs.List.{slice_index_or}
use Rattle.std.proofs.lemmas.List.{set-get_or}
use Rattle.common_laws.specs.Maps.{Contents}
use Rattle.col_disk.specs.declared.disk.Disk.{Ghosts}
use Rattle.col_disk.specs.declared.disk.StoreFault.{StoreFault}
use Rattle.col_disk.specs.declared.disk.StoreFault.TheVariants as fault
use Rattle.col_disk.proofs.Moving.{leaves_wider, moved_none}
use Rattle.catalog_types.specs.declared.catalogue.Catalogue.{Catalogue}
use Rattle.col_value.specs.declared.value.Value.{Value}
use Rattle.db_model.specs.Database.{Database}
use Rattle.db_model.specs.State.{State, Changes, own_changes, with_changes, with_rows, has_changes, committed}
use Rattle.db_model.specs.Events.{changes_committed, changes_dropped, rows_pending}
use Rattle.db_model.specs.Sound.{IsSoundDatabase, IsSoundSession, IsSound}
use Rattle.store_commit.specs.Seen.{Seen, Stands}
use Rattle.store_commit.specs.Making.{ReopensToEither, Makes}
use Rattle.table_store.specs.Held.{at_epoch}
use Rattle.table_store.specs.Drawing.{FewContainers}
use Rattle.table_store.proofs.Standing.{reads_only}
use Rattle.store_core.specs.Running.{Running, running, IsState, Mover}
use Rattle.store_core.specs.Sessions.{own_of, with_own, with_pending, with_current}
use Rattle.store_core.specs.Events.{BeforeOrAfter, Does}
use Rattle.sound_laws.proofs.Committed.{committed_sound}
use Rattle.state_laws.proofs.Events.{own_is_sound}
use Rattle.alike_laws.specs.Reordered.{AreAlikeSessions}
use Rattle.alike_laws.proofs.Changes.{Alike, changes_at, changes_turned, has_alike, rows_alike, set_alike}
use Rattle.alike_laws.proofs.Committed.{committed_alike}
use Rattle.alike_laws.proofs.Sound.{session_alike}
use Rattle.store_core.proofs.Doing.{still, work_kept}
use Rattle.store_core.proofs.Reordered.{makes_reordered}

abbrev pub own_at : List (List Changes) → ℕ → List Changes
own_at sessions current = slice_index_or sessions (current - 1) []

-- the current session's changes, in the store and in the state
pub own_alike : {D : Type 0} (disk : Ghosts D) (r : Running) (now : D) (state : State) → IsState disk r now state → Alike (own_of r) (own_changes state)
own_alike disk r now state here =
    subst (λ (n : ℕ). Alike (own_of r) (own_at state.sessions n)) (sym here.current) (changes_at r.sessions state.sessions (r.current - 1) here.sessions)

abbrev pub put_at : List Changes → List (List Changes) → ℕ → List (List Changes)
put_at changes sessions current = slice_set sessions (current - 1) changes

-- changes that were taken and put back
pub put_back : (changes : List Changes) (sessions : List (List Changes)) (current : ℕ) → changes ≡ own_at sessions current → put_at changes (put_at [] sessions current) current ≡ sessions
put_back changes sessions current is =
    set-set sessions (current - 1) [] changes ∙ ap (λ (cs : List Changes). put_at cs sessions current) is ∙ set-get_or sessions (current - 1) []

put_alike : (sessions others : List (List Changes)) (current now : ℕ) (own mine : List Changes) → AreAlikeSessions sessions others → now ≡ current → Alike own mine → AreAlikeSessions (put_at own sessions current) (put_at mine others now)
put_alike sessions others current now own mine alike same own_is =
    subst (λ (n : ℕ). AreAlikeSessions (put_at own sessions current) (put_at mine others n)) (sym same) (set_alike sessions others (current - 1) own mine alike own_is)

pub changed : {D : Type 0} (disk : Ghosts D) (r : Running) (now : D) (state : State) (own mine : List Changes) → Alike own mine → IsState disk r now state → IsSound (with_changes mine state) → IsState disk (with_own own r) now (with_changes mine state)
changed disk r now state own mine same here sound = record {
  database = here.database;
  sessions = put_alike r.sessions state.sessions r.current state.current own mine here.sessions here.current same;
  current = here.current;
  asked = here.asked;
  next = here.next;
  busy = here.busy;
  parts = here.parts;
  work = here.work;
  sound = sound;
}

pub pending_stands : {D : Type 0} (disk : Ghosts D) (r : Running) (now : D) (state : State) (name : List ℕ) (rows : List (List Value)) → IsState disk r now state → IsSound (rows_pending name rows state) → IsState disk (with_pending name rows r) now (rows_pending name rows state)
pending_stands disk r now state name rows here sound =
    changed disk r now state (with_rows name rows (own_of r)) (with_rows name rows (own_changes state)) (rows_alike name rows (own_of r) (own_changes state) (own_alike disk r now state here)) here sound

pub dropped_stands : {D : Type 0} (disk : Ghosts D) (r : Running) (now : D) (state : State) → IsState disk r now state → IsSound (changes_dropped state) → IsState disk (with_own [] r) now (changes_dropped state)
dropped_stands disk r now state here sound = changed disk r now state [] [] tt here sound

pub current_stands : {D : Type 0} (disk : Ghosts D) (r : Running) (now : D) (state : State) (n : ℕ) → IsState disk r now state → IsSound (record state { current = n }) → IsState disk (with_current n r) now (record state { current = n })
current_stands disk r now state n here sound = record {
  database = here.database;
  sessions = here.sessions;
  current = refl;
  asked = here.asked;
  next = here.next;
  busy = here.busy;
  parts = here.parts;
  work = here.work;
  sound = sound;
}

-- ---- COMMIT

-- what a COMMIT leaves, where it closes an epoch and where it doesn't
commits : (state : State) (b : Bool) → has_changes (own_changes state) ≡ b → changes_committed state ≡ with_changes [] (cond b (record state { database = committed (own_changes state) state.database }) state)
commits state b is = ap (λ (x : Bool). with_changes [] (cond x (record state { database = committed (own_changes state) state.database }) state)) is

closed : {D : Type 0} (disk : Ghosts D) (now : D) (was is : Seen) (sessions : List (List Changes)) (current : ℕ) (mover : Mover) (old : D) (state : State) (n : ℕ) → IsState disk (running was sessions current mover) old state → is.catalogue ≡ at_epoch n was.catalogue → disk.holds now ≡ disk.holds old
    → Stands disk is now (committed (own_changes state) state.database) → IsSound (with_changes [] (record state { database = committed (own_changes state) state.database }))
    → IsState disk (running is (put_at [] sessions current) current mover) now (with_changes [] (record state { database = committed (own_changes state) state.database }))
closed disk now was is sessions current mover old state n here catalogue files stands sound = record {
  database = stands;
  sessions = put_alike sessions state.sessions current state.current [] [] here.sessions here.current tt;
  current = here.current;
  asked = here.asked;
  next = here.next ∙ sym (ap (λ (c : Catalogue). c.next) catalogue);
  busy = here.busy;
  parts = subst (λ (c : Catalogue). FewContainers state.parts c) (sym catalogue) here.parts;
  work = work_kept disk mover.work old now files here.work;
  sound = sound;
}

-- one that closes an epoch, done or not
pub commit_does : {D : Type 0} (disk : Ghosts D) {old new : D} (was is : Seen) (sessions : List (List Changes)) (current : ℕ) (mover : Mover) (result : Result (Unit {0}) StoreFault) (state : State) (n : ℕ)
    → IsState disk (running was sessions current mover) old state → has_changes (own_changes state) ≡ true → disk.holds new ≡ disk.holds old
    → Makes disk fault.Memory was is old new result state.database (committed (own_changes state) state.database) → OnOk result (is.catalogue ≡ at_epoch n was.catalogue) → IsSound (changes_committed state)
    → Does disk fault.Memory (running was sessions current mover) (running is (put_at [] sessions current) current mover) old new result state (λ after. after ≡ changes_committed state)
commit_does {D} disk {old} {new} was is sessions current mover result state n here has files makes catalogue sound = record {
  done = by result makes.done catalogue;
  undone = λ wants. still disk (running was sessions current mover) old new state here (makes.undone wants);
  any_moment = leaves_wider disk (λ x reopens. either x reopens) makes.any_moment;
}
  where
    whole : State
    whole = with_changes [] (record state { database = committed (own_changes state) state.database })

    is_whole : changes_committed state ≡ whole
    is_whole = commits state true has

    by : (r : Result (Unit {0}) StoreFault) → OnOk r (Stands disk is new (committed (own_changes state) state.database)) → OnOk r (is.catalogue ≡ at_epoch n was.catalogue)
        → OnOk r ((after : State) × (after ≡ changes_committed state) × IsState disk (running is (put_at [] sessions current) current mover) new after)
    by (Ok u) stands same = (whole, sym is_whole, closed disk new was is sessions current mover old state n here same files stands (subst IsSound is_whole sound))
    by (Err f) stands same = tt

    either : (x : Contents) → ReopensToEither state.database (committed (own_changes state) state.database) x → BeforeOrAfter state (λ after. after ≡ changes_committed state) x
    either x (inl before) = inl before
    either x (inr after) = inr (whole, sym is_whole, after)

abbrev pub done_so : Result (Unit {0}) StoreFault
done_so = Ok tt

abbrev pub short_of : Result (Unit {0}) StoreFault
short_of = Err fault.Memory

-- one that closes none
pub idle_does : {D : Type 0} (disk : Ghosts D) (now : D) (was : Seen) (sessions : List (List Changes)) (current : ℕ) (mover : Mover) (state : State)
    → IsState disk (running was sessions current mover) now state → has_changes (own_changes state) ≡ false → IsSound (changes_committed state)
    → Does disk fault.Memory (running was sessions current mover) (running was (put_at [] sessions current) current mover) now now done_so state (λ after. after ≡ changes_committed state)
idle_does {D} disk now was sessions current mover state here none sound = record {
  done = (with_changes [] state, sym same, changed disk (running was sessions current mover) now state [] [] tt here (subst IsSound same sound));
  undone = λ wants. absurd (cc);
  any_moment = leaves_wider disk (λ x reopens. either x reopens) quiet.any_moment;
}
  where
    same : changes_committed state ≡ with_changes [] state
    same = commits state false none

    quiet : Makes disk fault.Memory was was now now short_of state.database state.database
    quiet = reads_only disk was was fault.Memory state.database state.database here.database (moved_none disk now)

    either : (x : Contents) → ReopensToEither state.database state.database x → BeforeOrAfter state (λ after. after ≡ changes_committed state) x
    either x (inl before) = inl before
    either x (inr before) = inl before

-- ---- over a store as it is seen

pub own_view : {D : Type 0} (disk : Ghosts D) (old : D) (r now : Running) (state : State) → r ≡ now → IsState disk now old state → IsState disk r old state
own_view disk old r now state view here = subst (λ (x : Running). IsState disk x old state) (sym view) here

pub commit_at : {D : Type 0} (disk : Ghosts D) {old new : D} (was is : Seen) (sessions others : List (List Changes)) (current : ℕ) (mover : Mover) (now : Running) (result : Result (Unit {0}) StoreFault) (state : State) (changes : List Changes) (n : ℕ)
    → running was sessions current mover ≡ now → changes ≡ own_at sessions current → has_changes changes ≡ true → IsState disk now old state → IsSound (changes_committed state) → others ≡ put_at [] sessions current → disk.holds new ≡ disk.holds old
    → ((d : Database) → Stands disk was old d → IsSoundSession d changes → has_changes changes ≡ true → IsSoundDatabase (committed changes d) → Makes disk fault.Memory was is old new result d (committed changes d))
    → OnOk result (is.catalogue ≡ at_epoch n was.catalogue) → Does disk fault.Memory now (running is others current mover) old new result state (λ after. after ≡ changes_committed state)
commit_at {D} disk {old} {new} was is sessions others current mover now result state changes n view mine has here sound left files makes catalogue =
    subst (λ (r : Running). Does disk fault.Memory r (running is others current mover) old new result state (λ after. after ≡ changes_committed state)) view
    (subst (λ (ss : List (List Changes)). Does disk fault.Memory (running was sessions current mover) (running is ss current mover) old new result state (λ after. after ≡ changes_committed state)) (sym left)
    (commit_does disk was is sessions current mover result state n own (sym (has_alike changes (own_changes state) alike) ∙ has) files made catalogue sound))
  where
    own : IsState disk (running was sessions current mover) old state
    own = own_view disk old (running was sessions current mover) now state view here

    alike : Alike changes (own_changes state)
    alike = subst (λ (cs : List Changes). Alike cs (own_changes state)) (sym mine) (own_alike disk (running was sessions current mover) old state own)

    session : IsSoundSession state.database (own_changes state)
    session = own_is_sound state own.sound

    its : IsSoundSession state.database changes
    its = session_alike state.database (own_changes state) changes (changes_turned changes (own_changes state) alike) session

    made : Makes disk fault.Memory was is old new result state.database (committed (own_changes state) state.database)
    made =
        makes_reordered disk was is result state.database (committed changes state.database) (committed (own_changes state) state.database) (committed_alike state.database changes (own_changes state) own.sound.database its alike)
        (committed_sound state.database (own_changes state) own.sound.database session)
        (makes state.database own.database its has (committed_sound state.database changes own.sound.database its))

pub idle_at : {D : Type 0} (disk : Ghosts D) (old : D) (was : Seen) (sessions others : List (List Changes)) (current : ℕ) (mover : Mover) (now : Running) (state : State) (changes : List Changes) → running was sessions current mover ≡ now → changes ≡ own_at sessions current → has_changes changes ≡ false
    → IsState disk now old state → IsSound (changes_committed state) → others ≡ put_at [] sessions current → Does disk fault.Memory now (running was others current mover) old old done_so state (λ after. after ≡ changes_committed state)
idle_at disk old was sessions others current mover now state changes view mine none here sound left =
    let own = own_view disk old (running was sessions current mover) now state view here in
    let alike : Alike changes (own_changes state) = subst (λ (cs : List Changes). Alike cs (own_changes state)) (sym mine) (own_alike disk (running was sessions current mover) old state own) in
    subst (λ (r : Running). Does disk fault.Memory r (running was others current mover) old old done_so state (λ after. after ≡ changes_committed state)) view
    (subst (λ (ss : List (List Changes)). Does disk fault.Memory (running was sessions current mover) (running was ss current mover) old old done_so state (λ after. after ≡ changes_committed state)) (sym left)
    (idle_does disk old was sessions current mover state own (sym (has_alike changes (own_changes state) alike) ∙ none) sound))
