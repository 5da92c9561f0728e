-- The steps of a merge or refresh that is made column by column, over a running store.
use Rattle.std.proofs.Common.{◌≡◌, ◌<◌, ◌-◌, ℕ, inl, inr, false, Option, Some, None, refl, sym, ◌∙◌, ap, subst}
use Rattle.std.specs.Prelude.{Result, Err}
use Rattle.common_laws.specs.Maps.{Contents}
use Rattle.col_disk.specs.Faults.{IsUnblamed}
use Rattle.col_disk.specs.Calls.{Stepped}
use Rattle.col_disk.specs.Moved.{Changed, Either, Moved, Named, NoName}
use Rattle.col_disk.specs.declared.disk.Disk.{Ghosts}
use Rattle.col_disk.specs.declared.disk.StoreFault.{StoreFault}
use Rattle.col_disk.specs.declared.disk.StoreFault.TheVariants as fault
use Rattle.col_disk.proofs.Moving.{leaves_join, leaves_wider, moved_join, moved_none, moved_wider}
use Rattle.ros_container.specs.Files.{body_of, index_of}
use Rattle.db_model.specs.Database.{Database}
use Rattle.db_model.specs.Numbers.{are_spent}
use Rattle.db_model.specs.State.{State}
use Rattle.state_laws.proofs.Reached.{busy_state}
use Rattle.store_commit.specs.Making.{Makes, ReopensToEither}
use Rattle.store_commit.specs.Seen.{Seen, Stands}
use Rattle.table_jobs.specs.Going.{IsGoing}
use Rattle.table_jobs.specs.Working.{StaysWhile}
use Rattle.table_jobs.specs.declared.work.Work.{Work}
use Rattle.table_store.proofs.Standing.{reads_only}
use Rattle.store_core.specs.Events.{ReopensTo}
use Rattle.store_core.specs.Running.{gone_on, unworked, working_on, HasWork, IsState, Running}
use Rattle.store_core.specs.Stepping.{with_mover, MoverStepsOf, WorksOver, WritesOneColumn}
use Rattle.store_core.proofs.Stepping.{on_step, stood}

-- a state with work beside it
pub with_work : {D : Type 0} (disk : Ghosts D) (r : Running) (work : Option Work) (old new : D) (state : State) → IsState disk r old state → Stands disk r.seen new state.database → HasWork disk work new
    → IsState disk (with_mover (working_on work r.mover) r) new state
with_work disk r work old new state here stands has = record {
  database = stands;
  sessions = here.sessions;
  current = here.current;
  asked = here.asked;
  next = here.next;
  busy = here.busy;
  parts = here.parts;
  work = has;
  sound = here.sound;
}

-- ---- which files are written

nothing_written : {D : Type 0} (disk : Ghosts D) {old new : D} (next column : ℕ) → Moved disk NoName NoName old new → Moved disk (Either (Named (body_of next column)) (Named (index_of next column))) NoName old new
nothing_written disk next column moved = moved_wider disk (λ q none. absurd none) (λ q none. none) moved

pub no_column : {D : Type 0} (disk : Ghosts D) {old new : D} (r : Running) → Moved disk NoName NoName old new → WritesOneColumn disk r old new
no_column disk r moved = (0, nothing_written disk r.seen.catalogue.next 0 moved)

pub still_column : {D : Type 0} (disk : Ghosts D) (r : Running) (now : D) → WritesOneColumn disk r now now
still_column disk r now = no_column disk r (moved_none disk now)

-- behind what only reads
pub column_behind : {D : Type 0} (disk : Ghosts D) {old mid new : D} (was is : Running) → is ≡ unworked was → Moved disk NoName NoName old mid → WritesOneColumn disk is mid new → WritesOneColumn disk was old new
column_behind disk {old} {mid} {new} was is same moved (column, writes) =
    let next : is.seen.catalogue.next ≡ was.seen.catalogue.next = ap (λ (r : Running). r.seen.catalogue.next) same in (
      column,
      moved_join disk (nothing_written disk was.seen.catalogue.next column moved)
          (subst (λ (n : ℕ). Moved disk (Either (Named (body_of n column)) (Named (index_of n column))) NoName mid new) next writes),
    )

-- ---- what they leave

read_leaves : {D : Type 0} (disk : Ghosts D) {old new : D} (r : Running) (state : State) → IsState disk r old state → Moved disk NoName NoName old new → StaysWhile disk r.seen old new state.database
read_leaves disk {old} {new} r state here moved =
    let made : Makes disk fault.Memory r.seen r.seen old new (Err fault.Memory) state.database state.database = reads_only disk r.seen r.seen fault.Memory state.database state.database here.database moved in
    record { stands = made.undone refl; any_moment = made.any_moment }

reopens : (state : State) (x : Contents) → ReopensToEither state.database state.database x → ReopensTo state x
reopens state x (inl before) = before
reopens state x (inr before) = before

-- nothing was written
pub works_still : {D : Type 0} (disk : Ghosts D) {old new : D} (was is : Running) (state : State) → is ≡ unworked was → IsState disk was old state → Moved disk NoName NoName old new → WorksOver disk is old new stood state
works_still disk {old} {new} was is state same here moved =
    let read = read_leaves disk was state here moved in
    record {
      done = subst (λ (r : Running). IsState disk r new state) (sym same) (with_work disk was None old new state here read.stands tt);
      any_moment = leaves_wider disk (reopens state) read.any_moment;
    }

abbrev pub failed_by : StoreFault → Result (Unit {0}) StoreFault
failed_by f = Err f

pub works_failed : {D : Type 0} (disk : Ghosts D) {old new : D} (was is : Running) (f : StoreFault) (state : State) → IsState disk was old state → Moved disk NoName NoName old new → WorksOver disk is old new (failed_by f) state
works_failed disk was is f state here moved = let read = read_leaves disk was state here moved in record { done = tt; any_moment = leaves_wider disk (reopens state) read.any_moment }

-- a column was written, and there is work or none
pub works_on : {D : Type 0} (disk : Ghosts D) {old mid new : D} (was half is : Running) (work : Option Work) (state : State) → half ≡ unworked was → is ≡ with_mover (working_on work was.mover) was → IsState disk was old state → Moved disk NoName NoName old mid
    → ((d : Database) → Stands disk half.seen mid d → StaysWhile disk half.seen mid new d) → HasWork disk work new → WorksOver disk is old new stood state
works_on disk {old} {mid} {new} was half is work state same ends here moved stays has =
    let read = read_leaves disk was state here moved in
    let seen : half.seen ≡ was.seen = ap (λ (r : Running). r.seen) same in
    let wrote : StaysWhile disk was.seen mid new state.database = subst (λ (s : Seen). (d : Database) → Stands disk s mid d → StaysWhile disk s mid new d) seen stays state.database read.stands in
    record {
      done = subst (λ (r : Running). IsState disk r new state) (sym ends) (with_work disk was work old new state here wrote.stands has);
      any_moment = leaves_wider disk (reopens state) (leaves_join disk read.any_moment wrote.any_moment);
    }

pub works_not : {D : Type 0} (disk : Ghosts D) {old mid new : D} (was half is : Running) (f : StoreFault) (state : State) → half ≡ unworked was → IsState disk was old state → Moved disk NoName NoName old mid
    → ((d : Database) → Stands disk half.seen mid d → StaysWhile disk half.seen mid new d) → WorksOver disk is old new (failed_by f) state
works_not disk {old} {mid} {new} was half is f state same here moved stays =
    let read = read_leaves disk was state here moved in
    let seen : half.seen ≡ was.seen = ap (λ (r : Running). r.seen) same in
    let wrote : StaysWhile disk was.seen mid new state.database = subst (λ (s : Seen). (d : Database) → Stands disk s mid d → StaysWhile disk s mid new d) seen stays state.database read.stands in
    record { done = tt; any_moment = leaves_wider disk (reopens state) (leaves_join disk read.any_moment wrote.any_moment) }

-- ---- the step

work_goes_on : {D : Type 0} (disk : Ghosts D) (r : Running) (now : D) (state : State) → IsState disk r now state → IsState disk (with_mover (gone_on r.mover) r) now (record state { busy = state.busy - 1 })
work_goes_on disk r now state here = record {
  database = here.database;
  sessions = here.sessions;
  current = here.current;
  asked = here.asked;
  next = here.next;
  busy = ap (λ (n : ℕ). n - 1) here.busy;
  parts = here.parts;
  work = here.work;
  sound = busy_state state (state.busy - 1) here.sound;
}

pub goes_on : {D : Type 0} (disk : Ghosts D) {old new : D} (was mid is : Running) (state : State) → IsState disk was old state → are_spent state ≡ false → 1 < was.mover.busy → WorksOver disk mid old new stood state → is ≡ with_mover (gone_on mid.mover) mid
    → MoverStepsOf disk is old new stood state
goes_on disk {old} {new} was mid is state here free more works same = record {
  done = (record state { busy = state.busy - 1 }, on_step state free (subst (λ (n : ℕ). 1 < n) (sym here.busy) more), subst (λ (r : Running). IsState disk r new (record state { busy = state.busy - 1 })) (sym same) (work_goes_on disk mid new state works.done));
  undone = λ none. absurd (cc);
  unblamed = tt;
  any_moment = leaves_wider disk (λ x left. inl left) works.any_moment;
}

pub step_failed : {D : Type 0} (disk : Ghosts D) {old new : D} (mid is : Running) (f : StoreFault) (state : State) → f ≡ fault.Disk → WorksOver disk mid old new (failed_by f) state → MoverStepsOf disk is old new (failed_by f) state
step_failed disk mid is f state same works = record {
  done = tt;
  undone = λ wants. absurd (cc);
  unblamed = subst IsUnblamed (sym same) tt;
  any_moment = leaves_wider disk (λ x left. inl left) works.any_moment;
}

-- ---- the work itself

pub stays_still : {D : Type 0} (disk : Ghosts D) (s : Seen) (now : D) (d : Database) → Stands disk s now d → StaysWhile disk s now now d
stays_still disk s now d stands =
    let made : Makes disk fault.Memory s s now now (Err fault.Memory) d d = reads_only disk s s fault.Memory d d stands (moved_none disk now) in
    record { stands = made.undone refl; any_moment = made.any_moment }

pub column_written : {D : Type 0} (disk : Ghosts D) (r : Running) (s : Seen) (old new : D) → s ≡ r.seen → (column : ℕ) × Moved disk (Either (Named (body_of s.catalogue.next column)) (Named (index_of s.catalogue.next column))) NoName old new → WritesOneColumn disk r old new
column_written disk r s old new same (column, moved) = (column, subst (λ (x : Seen). Moved disk (Either (Named (body_of x.catalogue.next column)) (Named (index_of x.catalogue.next column))) NoName old new) same moved)

-- what a disk tells it told before
told_before : {D : Type 0} (disk : Ghosts D) {W R : ℕ → Type 0} {old new : D} → Moved disk W R old new → (n : Contents) → disk.holds new ≡ Some n → (m : Contents) × (disk.holds old ≡ Some m)
told_before disk {W} {R} {old} {new} moved n told = by (disk.holds old) refl (subst (λ (o : Option Contents). Stepped (Changed W R) (disk.holds old) o) told moved.contents)
  where
    by : (o : Option Contents) → disk.holds old ≡ o → Stepped (Changed W R) (disk.holds old) (Some n) → (m : Contents) × (disk.holds old ≡ Some m)
    by (Some m) is step = (m, is)
    by None is step = absurd (subst (λ (o : Option Contents). Stepped (Changed W R) o (Some n)) is step)

-- what was on its way over contents that the disk told is so over those that it tells then
pub work_advanced : {D : Type 0} (disk : Ghosts D) (w next : Work) (old new : D) {P R : ℕ → Type 0} → Moved disk P R old new → ((m n : Contents) → disk.holds old ≡ Some m → disk.holds new ≡ Some n → IsGoing m w → IsGoing n next) → HasWork disk (Some w) old
    → HasWork disk (Some next) new
work_advanced disk w next old new {P} {R} moved on was = λ n told. by n told (told_before disk moved n told)
  where
    by : (n : Contents) → disk.holds new ≡ Some n → (m : Contents) × (disk.holds old ≡ Some m) → IsGoing n next
    by n told (m, before) = on m n before told (was m before)
