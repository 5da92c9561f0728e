-- What a statement comes to, over a running store and its disk.
use Rattle.std.proofs.Common.{◌≡◌, ℕ, ◌≤◌, inl, inr, List, refl, sym, subst, ap, arith}
use Rattle.std.specs.Prelude.{Option, Some, None, Result, Ok, Err, IfOk, IfErr, OnErr}
use Rattle.common_laws.specs.Maps.{Contents}
use Rattle.col_disk.specs.Moved.{ImageOf, Leaves}
use Rattle.col_disk.specs.declared.disk.Disk.{Ghosts}
use Rattle.col_disk.specs.declared.disk.StoreFault.{StoreFault}
use Rattle.col_disk.specs.declared.disk.StoreFault.TheVariants as store
use Rattle.col_disk.proofs.Moving.{leaves_wider}
use Rattle.sql_tree.specs.declared.refusal.Refusal.{Refusal}
use Rattle.sql_tree.specs.declared.statement.Function.{Function}
use Rattle.sql_tree.specs.declared.statement.Statement.{Statement}
use Rattle.db_model.specs.Database.{Database}
use Rattle.db_model.specs.State.{State}
use Rattle.db_model.specs.Sound.{IsSoundDatabase}
use Rattle.db_model.specs.Epochs.{last_good, cut}
use Rattle.db_model.specs.Loading.{Files}
use Rattle.db_model.specs.Leaving.{RefusedLeaves, RefusedCallLeaves}
use Rattle.db_model.specs.Step.{RefusesForm}
use Rattle.db_laws.proofs.Goods.{IsGood, good_itself, good_least}
use Rattle.folder_model.specs.Reopening.{Reopens}
use Rattle.store_core.specs.Running.{unworked, IsState, Running}
use Rattle.store_core.specs.Cuts.{ReopensFrom, CutBeforeOrAfter}
use Rattle.store_core.specs.Events.{BeforeOrAfter, Does}
use Rattle.store_step.specs.declared.answer.Answer.{Answer}
use Rattle.store_step.specs.Arms.{of_memory, told, Answers, Holds, IsAnswer, MayLeave}
use Rattle.col_disk.specs.Faults.{IsUnblamed as IsUnblamedStore}
use Rattle.store_step.specs.Forms.{is_served}
use Rattle.store_step.specs.Texts.{Refused, Says}

-- ---- what a crash leaves

-- whatever a crash leaves of a disk now
abbrev pub Images : {D : Type 0} → Ghosts D → D → State → Type 0
Images disk now state = (x : Contents) → ImageOf disk now x → Reopens x (cut (last_good state.database) state.database)

-- the last good epoch is closed
pub good_closed : (d : Database) → IsSoundDatabase d → last_good d ≤ d.last
good_closed d sound = (good_itself d sound).closed

same_epoch : (n : ℕ) → n ≤ n
same_epoch n = omega arith

pub from_good : (state : State) (x : Contents) → IsSoundDatabase state.database → Reopens x (cut (last_good state.database) state.database) → ReopensFrom (last_good state.database) state x
from_good state x sound reopens = record {
  epoch = last_good state.database;
  from = same_epoch (last_good state.database);
  closed = good_closed state.database sound;
  reopens = reopens;
}

pub still_leaves : {D : Type 0} (disk : Ghosts D) (now : D) (state : State) (After : State → Type 0) → IsSoundDatabase state.database → Images disk now state → Leaves disk (CutBeforeOrAfter state After) now now
still_leaves disk now state After sound images = record {
  later = same_epoch (disk.clock now);
  since_then = λ c is. inl (from_good state c sound (images c is));
  each = λ t c le is. inl is;
}

-- ---- what an answer says

pub says_answer : (state : State) (files : Files) (s : Statement) (printed : List ℕ) (a : Answer) (new : State) → Says printed a → IsAnswer state files s printed None new → IsAnswer state files s a.text.items a.refusal new
says_answer state files s printed a new says is =
    subst (λ (t : List ℕ). IsAnswer state files s t a.refusal new) (sym says.text) (subst (λ (o : Option Refusal). IsAnswer state files s printed o new) (sym says.accepted) is)

-- nothing changes where a statement is refused
stays_call : (state : State) (f : Function) → RefusedCallLeaves state f state
stays_call state Function.Lge = refl
stays_call state Function.Ahm = refl
stays_call state Function.Current = refl
stays_call state Function.MakeAhmNow = refl
stays_call state (Function.SetAhm n) = refl
stays_call state Function.Moveout = inl refl
stays_call state Function.Mergeout = inl refl
stays_call state (Function.Purge table) = inl refl
stays_call state (Function.Refresh table) = inl refl
stays_call state Function.StartRefresh = refl

pub stays : (state : State) (s : Statement) → RefusedLeaves state s state
stays state (Statement.CreateTable name columns) = refl
stays state (Statement.CreateProjection p) = refl
stays state (Statement.DropTable name) = refl
stays state (Statement.DropProjection name) = refl
stays state (Statement.Insert i) = refl
stays state (Statement.Delete d) = refl
stays state (Statement.Update u) = refl
stays state (Statement.AddColumn a) = refl
stays state (Statement.Copy table file) = refl
stays state Statement.Commit = refl
stays state Statement.Rollback = refl
stays state (Statement.Select at q) = refl
stays state (Statement.Explain q) = refl
stays state (Statement.Call f) = stays_call state f
stays state (Statement.Session n) = refl
stays state Statement.Step = refl

pub refused_answer : (state : State) (files : Files) (s : Statement) (why : Refusal) (a : Answer) (new : State) → Refused why a → RefusesForm state files s (is_served s) (Some why) → RefusedLeaves state s new
    → IsAnswer state files s a.text.items a.refusal new
refused_answer state files s why a new refused decided leaves =
    subst (λ (o : Option Refusal). IsAnswer state files s a.text.items o new) (sym refused.refusal) (record { decided = decided; effect = (refused.text, leaves) })

-- ---- statements that call no disk

pub said_holds : {D E : Type 0} (disk : Ghosts D) (files : Files) (s : Statement) (is : Running) (now : D) (a : Answer) (state after : State) (printed : List ℕ) → Says printed a → IsAnswer state files s printed None after → IsState disk is now after
    → Holds {E = E} disk files s is now (Ok a) state
said_holds disk files s is now a state after printed says answer there = record { done = (after, says_answer state files s printed a after says answer, there); undone = tt }

pub short_holds : {D E : Type 0} (disk : Ghosts D) (files : Files) (s : Statement) (is : Running) (now : D) (e : E) (state : State) → IsState disk is now state → Holds disk files s is now (Err e) state
short_holds disk files s is now e state here = record { done = tt; undone = here }

pub refused_holds : {D E : Type 0} (disk : Ghosts D) (files : Files) (s : Statement) (is : Running) (now : D) (why : Refusal) (r : Result Answer E) (state : State) → IfOk r (Refused why) → RefusesForm state files s (is_served s) (Some why)
    → IsState disk is now state → Holds disk files s is now r state
refused_holds disk files s is now why (Ok a) state refused decided here = record { done = (state, refused_answer state files s why a state refused decided (stays state s), here); undone = tt }
refused_holds disk files s is now why (Err e) state refused decided here = record { done = tt; undone = here }

pub held_answers : {D E : Type 0} (disk : Ghosts D) (files : Files) (s : Statement) (is : Running) (now : D) (r : Result Answer E) (state : State) → IsSoundDatabase state.database → Images disk now state → Holds disk files s is now r state
    → Answers disk files s is now now (of_memory r) state
held_answers disk files s is now (Ok a) state sound images holds = record {
  done = holds.done;
  undone = λ wants. absurd (cc);
  unblamed = tt;
  any_moment = still_leaves disk now state (MayLeave files s state) sound images;
}
held_answers disk files s is now (Err e) state sound images holds = record {
  done = tt;
  undone = λ wants. (state, inl refl, holds.undone);
  unblamed = tt;
  any_moment = still_leaves disk now state (MayLeave files s state) sound images;
}

abbrev none_made : Result Answer StoreFault
none_made = Err store.Memory

-- memory was short before anything was done
pub unmade : {D : Type 0} (disk : Ghosts D) (files : Files) (s : Statement) (is : Running) (now : D) (state : State) → IsState disk is now state → Images disk now state → Answers disk files s is now now none_made state
unmade disk files s is now state here images = record {
  done = tt;
  undone = λ wants. (state, inl refl, here);
  unblamed = tt;
  any_moment = still_leaves disk now state (MayLeave files s state) here.sound.database images;
}

-- ---- statements that call the disk

-- a statement that isn't refused makes one of these states, and prints this
pub record Event (state : State) (files : Files) (s : Statement) (printed : List ℕ) (After : State → Type 0) : Type 0 where
  pub answer : (new : State) → After new → IsAnswer state files s printed None new
  pub sound : (new : State) → After new → IsSoundDatabase new.database
  pub good : (new : State) → After new → IsGood (last_good state.database) new.database

event_leaves : {D : Type 0} (disk : Ghosts D) {old new : D} (state : State) (files : Files) (s : Statement) (printed : List ℕ) (After : State → Type 0) → IsSoundDatabase state.database → Event state files s printed After
    → Leaves disk (BeforeOrAfter state After) old new → Leaves disk (CutBeforeOrAfter state (MayLeave files s state)) old new
event_leaves disk state files s printed After sound event leaves = leaves_wider disk (λ x either. by x either) leaves
  where
    by : (x : Contents) → BeforeOrAfter state After x → CutBeforeOrAfter state (MayLeave files s state) x
    by x (inl before) = inl (from_good state x sound before)
    by x (inr (made, is, reopens)) = inr (
      made,
      inl (printed, None, event.answer made is),
      record {
        epoch = last_good made.database;
        from = good_least (last_good state.database) made.database (event.good made is);
        closed = good_closed made.database (event.sound made is);
        reopens = reopens;
      },
    )

-- the fault of an event is want of memory only where it says so
abbrev pub ShortBy : {F : Type 0} → (F → StoreFault) → F → Type 0
ShortBy {F} turn short = (f : F) → turn f ≡ store.Memory → f ≡ short

abbrev pub fault_as : {X : Type 0} → StoreFault → Result X StoreFault
fault_as f = Err f

pub err_same : {X : Type 0} (e f : StoreFault) → fault_as {X = X} e ≡ fault_as {X = X} f → e ≡ f
err_same e f is = cc

pub event_answers : {D F : Type 0} (disk : Ghosts D) (short : F) (turn : F → StoreFault) {old new : D} (was is : Running) (did : Result (Unit {0}) F) (a : Answer) (state : State) (files : Files) (s : Statement) (printed : List ℕ) (After : State → Type 0)
    → IsState disk was old state → Says printed a → Event state files s printed After → ShortBy turn short → IfErr did (λ f. IsUnblamedStore (turn f)) → OnErr did (is ≡ unworked was) → Does disk short was is old new did state After
    → Answers disk files s is old new (told turn a did) state
event_answers disk short turn {old} {new} was is (Ok u) a state files s printed After here says event wants unblamed same does =
    let (after, made, there) = does.done in
    record {
      done = (after, says_answer state files s printed a after says (event.answer after made), there);
      undone = λ none. absurd (cc);
      unblamed = tt;
      any_moment = event_leaves disk state files s printed After here.sound.database event does.any_moment;
    }
event_answers disk short turn {old} {new} was is (Err f) a state files s printed After here says event wants unblamed same does = record {
  done = tt;
  undone = λ none. (state, inl refl, subst (λ (r : Running). IsState disk r new state) (sym same) (does.undone (ap (λ (e : _). Err e) (wants f (err_same {X = Answer} (turn f) store.Memory none)))));
  unblamed = unblamed;
  any_moment = event_leaves disk state files s printed After here.sound.database event does.any_moment;
}

-- the same, over a store as it is seen
pub viewed_holds : {D E : Type 0} (disk : Ghosts D) (files : Files) (s : Statement) (r is : Running) (now : D) (result : Result Answer E) (state : State) → is ≡ r → Holds disk files s r now result state → Holds disk files s is now result state
viewed_holds disk files s r is now result state same holds = subst (λ (x : Running). Holds disk files s x now result state) (sym same) holds

-- ---- by the statement as it was read

pub same_answers : {D : Type 0} (disk : Ghosts D) (files : Files) (s t : Statement) (is : Running) {old new : D} (result : Result Answer StoreFault) (state : State) → s ≡ t → Answers disk files t is old new result state → Answers disk files s is old new result state
same_answers disk files s t is {old} {new} result state same answers = subst (λ (x : Statement). Answers disk files x is old new result state) (sym same) answers

pub memory_answers : {D E : Type 0} (disk : Ghosts D) (files : Files) (s t : Statement) (is : Running) (now : D) (r : Result Answer E) (result : Result Answer StoreFault) (state : State) → s ≡ t → result ≡ of_memory r → IsSoundDatabase state.database → Images disk now state
    → Holds disk files t is now r state → Answers disk files s is now now result state
memory_answers disk files s t is now r result state same told sound images holds =
    same_answers disk files s t is result state same (subst (λ (o : Result Answer StoreFault). Answers disk files t is now now o state) (sym told) (held_answers disk files t is now r state sound images holds))
