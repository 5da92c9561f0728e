-- A replay from one epoch to the next, over a running store.
use Rattle.std.proofs.Common.{◌≡◌, ◌+◌, ◌≤◌, inl, inr, ℕ, [], refl, sym, ◌∙◌, arith, subst}
use Rattle.std.specs.Prelude.{true, false, not, Bool, Result, Ok, Err, IsErrOf}
use Rattle.common_laws.specs.Maps.{Contents}
use Rattle.col_disk.specs.Faults.{IsUnblamed}
use Rattle.col_disk.specs.Moved.{Leaves}
use Rattle.col_disk.specs.declared.disk.Disk.{Ghosts}
use Rattle.col_disk.specs.declared.disk.StoreFault.{StoreFault}
use Rattle.col_disk.specs.declared.disk.StoreFault.TheVariants as store
use Rattle.col_disk.proofs.Moving.{leaves_join, leaves_wider, moved_none}
use Rattle.db_model.specs.Database.{Database}
use Rattle.db_model.specs.Epochs.{cut, last_good}
use Rattle.db_model.specs.Events.{changes_committed, changes_dropped}
use Rattle.db_model.specs.Sound.{IsSoundDatabase}
use Rattle.db_model.specs.State.{State}
use Rattle.folder_model.specs.Reopening.{Reopens}
use Rattle.store_commit.specs.Making.{ReopensToEither}
use Rattle.table_store.proofs.Standing.{reads_only}
use Rattle.store_core.specs.Events.{BeforeOrAfter, Does}
use Rattle.store_core.specs.Running.{unworked, IsState, Running}
use Rattle.store_core.specs.Sessions.{with_own}
use Rattle.catch_model.specs.Added.{has_change}
use Rattle.catch_model.specs.Refused.{is_gap, NoEpoch}
use Rattle.catch_model.specs.declared.fault.LinkFault.{LinkFault}
use Rattle.catch_model.specs.declared.fault.LinkFault.TheVariants as link
use Rattle.catch_laws.specs.Replay.{IsAt}
use Rattle.catch_laws.proofs.Pending.{pends_commit, pends_none}
use Rattle.catch_rows.specs.Sharing.{behind_fault}
use Rattle.buddy_link.specs.Replaying.{Comes, IsShortBehind, ReopensBehind}
use Rattle.buddy_link.proofs.Pended.{IsPended}

-- the law of a store whose session's changes are dropped
abbrev pub Drops : {D : Type 0} → Ghosts D → Type 0
Drops {D} disk = (now : D) (r : Running) (state : State) → IsState disk r now state → IsState disk (with_own [] r) now (changes_dropped state)

-- ---- images

-- what reopens to a state on the way reopens to the database from which it started
pub at_reopens : (mark n : ℕ) (start b : Database) (s : State) (x : Contents) → IsAt mark start b n s → last_good start ≡ start.last → Reopens x (cut (last_good s.database) s.database) → ReopensBehind start x
at_reopens mark n start b s x at good reopens =
    subst (Reopens x) (at.cuts start.last (omega arith)) (subst (λ (k : ℕ). Reopens x (cut k s.database)) (at.good ∙ good) reopens)

pub still_leaves : {D : Type 0} (disk : Ghosts D) (r : Running) (now : D) (s : State) → IsState disk r now s → Leaves disk (λ x. Reopens x (cut (last_good s.database) s.database)) now now
still_leaves disk r now s here =
    leaves_wider disk (λ x reopens. either x reopens) (reads_only disk r.seen r.seen store.Memory s.database s.database here.database (moved_none disk now)).any_moment
  where
    either : (x : Contents) → ReopensToEither s.database s.database x → Reopens x (cut (last_good s.database) s.database)
    either x (inl before) = before
    either x (inr before) = before

-- ---- one epoch

abbrev pub memory : Result (Unit {0}) LinkFault
memory = Err link.Memory

-- where it couldn't become pending
pub comes_unpended : {D : Type 0} (disk : Ghosts D) (now : D) → Drops disk → (mark n : ℕ) (start b : Database) (was is : Running) (s : State) → last_good start ≡ start.last → IsState disk was now s → IsAt mark start b n s → is ≡ with_own [] was
    → Comes disk mark start b n (n + 1) is now now memory
comes_unpended disk now drops mark n start b was is s good here at same = record {
  done = tt;
  short = λ wants. (n, omega arith, omega arith, changes_dropped s, subst (λ (r : Running). IsState disk r now (changes_dropped s)) (sym same) (drops now was s here), (pends_none mark start b n s here.sound at).at);
  fault = tt;
  any_moment = leaves_wider disk (λ x reopens. at_reopens mark n start b s x at good reopens) (still_leaves disk was now s here);
}

-- whatever a crash leaves of the commit
commit_leaves : (mark n : ℕ) (start b : Database) (s : State) (x : Contents) → last_good start ≡ start.last → IsAt mark start b n (changes_dropped s) → IsAt mark start b (n + 1) (changes_committed s) → BeforeOrAfter s (λ new. new ≡ changes_committed s) x → ReopensBehind start x
commit_leaves mark n start b s x good before after (inl was) = at_reopens mark n start b (changes_dropped s) x before good was
commit_leaves mark n start b s x good before after (inr (new, is, reopens)) =
    at_reopens mark (n + 1) start b (changes_committed s) x after good (subst (λ (t : State). Reopens x (cut (last_good t.database) t.database)) is reopens)

abbrev committed_ok : Result (Unit {0}) StoreFault
committed_ok = Ok tt

abbrev pub replayed_ok : Result (Unit {0}) LinkFault
replayed_ok = Ok tt

abbrev commit_failed : StoreFault → Result (Unit {0}) StoreFault
commit_failed f = Err f

abbrev pub replay_failed : LinkFault → Result (Unit {0}) LinkFault
replay_failed f = Err f

-- where it was committed
pub comes_committed : {D : Type 0} (disk : Ghosts D) (old new : D) (mark n : ℕ) (start b : Database) (was is : Running) → last_good start ≡ start.last → IsSoundDatabase b → mark ≤ n → has_change b (n + 1) ≡ true → IsPended disk mark start b n b.tables was old
    → ((state : State) → IsState disk was old state → Does disk store.Memory was is old new committed_ok state (λ after. after ≡ changes_committed state)) → Comes disk mark start b n (n + 1) is old new replayed_ok
comes_committed disk old new mark n start b was is good sound le some pended does =
    let s : State = pended.state in
    let did = does s pended.here in
    let at : IsAt mark start b (n + 1) (changes_committed s) = pends_commit mark start b n s pended.here.sound sound le pended.pends some in
    record {
      done = (changes_committed s, subst (λ (t : State). IsState disk is new t) did.done.1 did.done.2, at);
      short = λ wants. absurd (cc);
      fault = tt;
      any_moment = leaves_wider disk (λ x reopens. commit_leaves mark n start b s x good pended.pends.at at reopens) did.any_moment;
    }

-- where the commit failed
pub comes_failed : {D : Type 0} (disk : Ghosts D) (old new : D) → Drops disk → (mark n : ℕ) (start b : Database) (was left is : Running) (f : StoreFault) → last_good start ≡ start.last → IsSoundDatabase b → mark ≤ n → has_change b (n + 1) ≡ true → IsPended disk mark start b n b.tables was old
    → ((state : State) → IsState disk was old state → Does disk store.Memory was left old new (commit_failed f) state (λ after. after ≡ changes_committed state)) → ((state : State) → IsState disk was old state → IsUnblamed f) → is ≡ with_own [] (unworked was)
    → Comes disk mark start b n (n + 1) is old new (replay_failed (behind_fault f))
comes_failed {D} disk old new drops mark n start b was left is f good sound le some pended does unblamed same = record {
  done = tt;
  short = by f (λ wants. did.undone wants);
  fault = blamed f (unblamed s pended.here);
  any_moment = leaves_wider disk (λ x reopens. commit_leaves mark n start b s x good pended.pends.at at reopens) did.any_moment;
}
  where
    s : State
    s = pended.state

    did : Does disk store.Memory was left old new (commit_failed f) pended.state (λ after. after ≡ changes_committed pended.state)
    did = does pended.state pended.here

    at : IsAt mark start b (n + 1) (changes_committed pended.state)
    at = pends_commit mark start b n pended.state pended.here.sound sound le pended.pends some

    Short : LinkFault → Type 0
    Short g = IsErrOf (replay_failed g) link.Memory → (k : ℕ) × (n ≤ k) × (k ≤ n + 1) × (t : State) × IsState disk is new t × IsAt mark start b k t

    by : (g : StoreFault) → (IsErrOf (commit_failed g) store.Memory → IsState disk (unworked was) new pended.state) → Short (behind_fault g)
    by store.Disk undone wants = absurd (cc)
    by (store.Damaged q) undone wants = absurd (cc)
    by store.Memory undone wants = (n, omega arith, omega arith, changes_dropped pended.state, subst (λ (r : Running). IsState disk r new (changes_dropped pended.state)) (sym same) (drops new (unworked was) pended.state (undone refl)), pended.pends.at)

    blamed : (g : StoreFault) → IsUnblamed g → IsShortBehind (behind_fault g)
    blamed store.Disk ok = tt
    blamed (store.Damaged q) no_blame = no_blame
    blamed store.Memory ok = tt

-- ---- several epochs

-- none
pub comes_none : {D : Type 0} (disk : Ghosts D) (now : D) (mark n : ℕ) (start b : Database) (r : Running) (s : State) → last_good start ≡ start.last → IsState disk r now s → IsAt mark start b n s → Comes disk mark start b n n r now now replayed_ok
comes_none disk now mark n start b r s good here at = record {
  done = (s, here, at);
  short = λ wants. absurd (cc);
  fault = tt;
  any_moment = leaves_wider disk (λ x reopens. at_reopens mark n start b s x at good reopens) (still_leaves disk r now s here);
}

-- one after others
pub comes_joined : {D T : Type 0} (disk : Ghosts D) (old mid new : D) (mark from middle upto : ℕ) (start b : Database) (was is : Running) (result : Result T LinkFault) → from ≤ middle → Comes disk mark start b from middle was old mid replayed_ok
    → ((s : State) → IsAt mark start b middle s → IsState disk was mid s → Comes disk mark start b middle upto is mid new result) → Comes disk mark start b from upto is old new result
comes_joined disk old mid new mark from middle upto start b was is result le first second =
    let (s, here, at) = first.done in
    let then = second s at here in
    record {
      done = then.done;
      short = λ wants. let (k, low, high, t, there, come) = then.short wants in (k, further k low, high, t, there, come);
      fault = then.fault;
      any_moment = leaves_join disk first.any_moment then.any_moment;
    }
  where
    further : (k : ℕ) → middle ≤ k → from ≤ k
    further k low = omega (arith, le, low)

-- one of them was the last that could be tried
pub comes_stopped : {D : Type 0} (disk : Ghosts D) (old new : D) (mark from upto last : ℕ) (start b : Database) (is : Running) (f : LinkFault) → upto ≤ last → Comes disk mark start b from upto is old new (replay_failed f) → Comes disk mark start b from last is old new (replay_failed f)
comes_stopped disk old new mark from upto last start b is f le comes = record {
  done = tt;
  short = λ wants. let (k, low, high, t, there, come) = comes.short wants in (k, low, within k high, t, there, come);
  fault = comes.fault;
  any_moment = comes.any_moment;
}
  where
    within : (k : ℕ) → k ≤ upto → k ≤ last
    within k high = omega (arith, le, high)

-- an epoch that comes changed something
pub some_change : (after last n : ℕ) (b : Database) → NoEpoch (is_gap b) after last → after ≤ n → n + 1 ≤ last → has_change b (n + 1) ≡ true
some_change after last n b no_gap low high = by (has_change b (n + 1)) (no_gap (n + 1) (omega (arith, low)) high)
  where
    by : (x : Bool) → not x ≡ false → x ≡ true
    by true is = refl
    by false is = absurd (cc)

pub comes_upto : {D : Type 0} (disk : Ghosts D) (old new : D) (mark from upto last : ℕ) (start b : Database) (is : Running) → upto ≡ last → Comes disk mark start b from upto is old new replayed_ok → Comes disk mark start b from last is old new replayed_ok
comes_upto disk old new mark from upto last start b is same comes = subst (λ (k : ℕ). Comes disk mark start b from k is old new replayed_ok) same comes
