-- COPY, over a running store: rows join the current session's pending rows, and the session commits.
use Rattle.std.proofs.Common.{◌≡◌, ◌<◌, ◌-◌, inl, inr, ℕ, true, false, List, [], length, refl, sym, ◌∙◌, subst, arith, get_or-set_same, set-set}
use Rattle.std.specs.Prelude.{Result, OnOk}
use Rattle.common_laws.specs.Maps.{Contents}
use Rattle.col_disk.specs.declared.disk.Disk.{Ghosts}
use Rattle.col_disk.specs.declared.disk.StoreFault.{StoreFault}
use Rattle.col_disk.specs.declared.disk.StoreFault.TheVariants as fault
use Rattle.col_disk.proofs.Moving.{leaves_wider, moved_none}
use Rattle.col_value.specs.declared.value.Value.{Value}
use Rattle.db_model.specs.Database.{Database}
use Rattle.db_model.specs.Events.{rows_loaded, rows_pending}
use Rattle.db_model.specs.Sound.{IsSoundDatabase, IsSoundSession, IsSound}
use Rattle.db_model.specs.State.{State, Changes, committed, has_changes, with_rows}
use Rattle.alike_laws.proofs.Changes.{as_many}
use Rattle.store_commit.specs.Seen.{Seen, Stands}
use Rattle.store_commit.specs.Making.{ReopensToEither, Makes}
use Rattle.table_store.specs.Held.{at_epoch}
use Rattle.table_store.proofs.Standing.{reads_only}
use Rattle.store_core.specs.Events.{BeforeOrAfter, Does}
use Rattle.store_core.specs.Running.{Running, running, IsState, Mover}
use Rattle.store_core.proofs.Doing.{still, without_work}
use Rattle.store_core.proofs.Sessions.{commit_at, done_so, idle_at, own_at, own_view, pending_stands, put_at, short_of}

-- the sessions, with rows more pending in the current one
abbrev pub filled : List ℕ → List (List Value) → List (List Changes) → ℕ → List (List Changes)
filled name rows sessions current = put_at (with_rows name rows (own_at sessions current)) sessions current

-- the current session is one of them
is_there : {D : Type 0} (disk : Ghosts D) (was : Seen) (sessions : List (List Changes)) (current : ℕ) (mover : Mover) (now : D) (state : State) → IsState disk (running was sessions current mover) now state → current - 1 < length sessions
is_there disk was sessions current mover now state here =
    let many = as_many sessions state.sessions here.sessions in
    let eight = here.sound.eight in
    let first = here.sound.first in
    let last = here.sound.current in
    let same = here.current in
    omega (arith, many, eight, first, last, same)

own_filled : (name : List ℕ) (rows : List (List Value)) (sessions : List (List Changes)) (current : ℕ) → current - 1 < length sessions → own_at (filled name rows sessions current) current ≡ with_rows name rows (own_at sessions current)
own_filled name rows sessions current there = get_or-set_same sessions (current - 1) (with_rows name rows (own_at sessions current)) [] there

put_twice : (one other : List Changes) (sessions : List (List Changes)) (current : ℕ) → put_at other (put_at one sessions current) current ≡ put_at other sessions current
put_twice one other sessions current = set-set sessions (current - 1) one other

-- what is done with these rows pending is done without them
unfilled : {D : Type 0} (disk : Ghosts D) {old new : D} (was : Seen) (sessions others : List (List Changes)) (current : ℕ) (mover : Mover) (is : Running) (result : Result (Unit {0}) StoreFault) (state : State) (name : List ℕ) (rows : List (List Value)) → IsState disk (running was sessions current mover) old state
    → Does disk fault.Memory (running was others current mover) is old new result (rows_pending name rows state) (λ after. after ≡ rows_loaded name rows state)
    → Does disk fault.Memory (running was sessions current mover) is old new result state (λ after. after ≡ rows_loaded name rows state)
unfilled disk {old} {new} was sessions others current mover is result state name rows here does = record {
  done = does.done;
  undone = λ wants. still disk (running was sessions current mover) old new state here (does.undone wants).database;
  any_moment = does.any_moment;
}

-- a COPY that closes an epoch
pub load_at : {D : Type 0} (disk : Ghosts D) {old new : D} (was is : Seen) (sessions others : List (List Changes)) (current : ℕ) (mover : Mover) (now : Running) (result : Result (Unit {0}) StoreFault) (state : State) (name : List ℕ) (rows : List (List Value)) (changes : List Changes) (n : ℕ)
    → running was sessions current mover ≡ now → changes ≡ with_rows name rows (own_at sessions current) → has_changes changes ≡ true → IsState disk now old state
    → IsSound (rows_pending name rows state) → IsSound (rows_loaded name rows state) → others ≡ put_at [] sessions current → disk.holds new ≡ disk.holds old
    → ((d : Database) → Stands disk was old d → IsSoundSession d changes → has_changes changes ≡ true → IsSoundDatabase (committed changes d) → Makes disk fault.Memory was is old new result d (committed changes d))
    → OnOk result (is.catalogue ≡ at_epoch n was.catalogue) → Does disk fault.Memory now (running is others current mover) old new result state (λ after. after ≡ rows_loaded name rows state)
load_at {D} disk {old} {new} was is sessions others current mover now result state name rows changes n view mine has here pending sound left files makes catalogue =
    subst (λ (r : Running). Does disk fault.Memory r (running is others current mover) old new result state (λ after. after ≡ rows_loaded name rows state)) view
    (unfilled disk was sessions (filled name rows sessions current) current mover (running is others current mover) result state name rows own
    (commit_at disk was is (filled name rows sessions current) others current mover (running was (filled name rows sessions current) current mover) result (rows_pending name rows state) changes n refl
    (mine ∙ sym (own_filled name rows sessions current there)) has (pending_stands disk (running was sessions current mover) old state name rows own pending) sound
    (left ∙ sym (put_twice (with_rows name rows (own_at sessions current)) [] sessions current)) files makes catalogue))
  where
    own : IsState disk (running was sessions current mover) old state
    own = own_view disk old (running was sessions current mover) now state view here

    there : current - 1 < length sessions
    there = is_there disk was sessions current mover old state own

-- a COPY of no rows, where nothing else is pending
pub load_idle : {D : Type 0} (disk : Ghosts D) (old : D) (was : Seen) (sessions others : List (List Changes)) (current : ℕ) (mover : Mover) (now : Running) (state : State) (name : List ℕ) (rows : List (List Value)) (changes : List Changes)
    → running was sessions current mover ≡ now → changes ≡ with_rows name rows (own_at sessions current) → has_changes changes ≡ false → IsState disk now old state
    → IsSound (rows_pending name rows state) → IsSound (rows_loaded name rows state) → others ≡ put_at [] sessions current
    → Does disk fault.Memory now (running was others current mover) old old done_so state (λ after. after ≡ rows_loaded name rows state)
load_idle {D} disk old was sessions others current mover now state name rows changes view mine none here pending sound left =
    subst (λ (r : Running). Does disk fault.Memory r (running was others current mover) old old done_so state (λ after. after ≡ rows_loaded name rows state)) view
    (unfilled disk was sessions (filled name rows sessions current) current mover (running was others current mover) done_so state name rows own
    (idle_at disk old was (filled name rows sessions current) others current mover (running was (filled name rows sessions current) current mover) (rows_pending name rows state) changes refl
    (mine ∙ sym (own_filled name rows sessions current there)) none (pending_stands disk (running was sessions current mover) old state name rows own pending) sound
    (left ∙ sym (put_twice (with_rows name rows (own_at sessions current)) [] sessions current))))
  where
    own : IsState disk (running was sessions current mover) old state
    own = own_view disk old (running was sessions current mover) now state view here

    there : current - 1 < length sessions
    there = is_there disk was sessions current mover old state own

-- memory was short before anything was done
pub load_short : {D : Type 0} (disk : Ghosts D) (old : D) (now : Running) {is : Running} (state : State) (After : State → Type 0) → IsState disk now old state → Does disk fault.Memory now is old old short_of state After
load_short disk old now {is} state After here = record {
  done = tt;
  undone = λ wants. without_work disk now old state here;
  any_moment = leaves_wider disk (λ x reopens. either x reopens) quiet.any_moment;
}
  where
    quiet : Makes disk fault.Memory now.seen now.seen old old short_of state.database state.database
    quiet = reads_only disk now.seen now.seen fault.Memory state.database state.database here.database (moved_none disk old)

    either : (x : Contents) → ReopensToEither state.database state.database x → BeforeOrAfter state After x
    either x (inl before) = inl before
    either x (inr before) = inl before
