-- A statement text, by the statement that it says.
use Rattle.std.proofs.Common.{◌≡◌, ℕ, inl, inr, List, refl, sym, subst, ap}
use Rattle.std.specs.Prelude.{Option, Some, None, Result, Ok, Err, IfOk}
use Rattle.common_laws.specs.Maps.{Contents}
use Rattle.col_disk.specs.declared.disk.Disk.{Ghosts}
use Rattle.col_disk.specs.declared.disk.StoreFault.{StoreFault}
use Rattle.col_disk.specs.declared.disk.StoreFault.TheVariants as store
use Rattle.col_disk.proofs.Moving.{leaves_wider}
use Rattle.sql_words.specs.Symbols.{symbols_of}
use Rattle.sql_tree.specs.declared.refusal.Refusal.{Refusal}
use Rattle.sql_tree.specs.declared.statement.Statement.{Statement}
use Rattle.sql_tree.specs.Lines.{refusal_text}
use Rattle.sql_tree.specs.Phrases.{IsPlace}
use Rattle.sql_tree.specs.Spells.{Spells}
use Rattle.db_model.specs.State.{State}
use Rattle.db_model.specs.Loading.{Files}
use Rattle.db_model.specs.Step.{Step}
use Rattle.store_core.specs.Running.{Running, IsState}
use Rattle.store_core.specs.Cuts.{CutBeforeOrAfter}
use Rattle.store_step.specs.declared.answer.Answer.{Answer}
use Rattle.store_step.specs.declared.answer.StepFault.{StepFault}
use Rattle.store_step.specs.declared.answer.StepFault.TheVariants as step
use Rattle.store_step.specs.Arms.{IsKeptBy, of_memory, of_text, Answers, IsAnswer, MayLeave}
use Rattle.col_disk.specs.Faults.{IsUnblamed as IsUnblamedStore}
use Rattle.store_step.specs.Faults.{of_store, IsUnblamed}
use Rattle.store_step.specs.Forms.{is_served}
use Rattle.store_step.specs.Steps.{IsKeptIn, Steps, TextMayLeave}
use Rattle.store_step.specs.Texts.{Refused}
use Rattle.store_step.proofs.Answered.{Images, still_leaves}

step_of : (text : List ℕ) (state : State) (files : Files) (s : Statement) (printed : List ℕ) (why : Option Refusal) (new : State) → Spells (symbols_of text) s → IsAnswer state files s printed why new → Step is_served state files text printed why new
step_of text state files s printed why new spelled is = record { read = Some s; reads = spelled; decided = is.decided; effect = is.effect }

wrong_step : (text : List ℕ) (state : State) (files : Files) (printed : List ℕ) (why : Option Refusal) (place : ℕ) → IsPlace Spells (symbols_of text) place → printed ≡ refusal_text (Refusal.Syntax place) → why ≡ Some (Refusal.Syntax place)
    → Step is_served state files text printed why state
wrong_step text state files printed why place wrong told is =
    subst (λ (o : Option Refusal). Step is_served state files text printed o state) (sym is)
    (record { read = None; reads = wrong.unspelled; decided = (place, wrong, refl); effect = (told, refl) })

-- the faults of a store, as those of a text
memory_of : (f : StoreFault) → of_store f ≡ step.Memory → f ≡ store.Memory
memory_of store.Disk is = absurd (cc)
memory_of (store.Damaged q) is = absurd (cc)
memory_of store.Memory is = refl

never_read : (f : StoreFault) → of_store f ≡ step.Read → ⊥
never_read store.Disk is = absurd (cc)
never_read (store.Damaged q) is = absurd (cc)
never_read store.Memory is = absurd (cc)

unblamed_of : (f : StoreFault) → IsUnblamedStore f → IsUnblamed (of_store f)
unblamed_of store.Disk is = tt
unblamed_of (store.Damaged q) is = is
unblamed_of store.Memory is = tt

abbrev fault_as : {X : Type 0} → StepFault → Result X StepFault
fault_as f = Err f

err_same : {X : Type 0} (e f : StepFault) → fault_as {X = X} e ≡ fault_as {X = X} f → e ≡ f
err_same e f is = cc

stepped_wider : (text : List ℕ) (files : Files) (s : Statement) (state : State) (x : Contents) → Spells (symbols_of text) s → CutBeforeOrAfter state (MayLeave files s state) x → CutBeforeOrAfter state (TextMayLeave files text state) x
stepped_wider text files s state x spelled (inl before) = inl before
stepped_wider text files s state x spelled (inr (new, inl (printed, why, is), reopens)) = inr (new, inl (printed, why, step_of text state files s printed why new spelled is), reopens)
stepped_wider text files s state x spelled (inr (new, inr partly, reopens)) = inr (new, inr (s, spelled, partly), reopens)

left_by : (text : List ℕ) (s : Statement) (state after : State) → Spells (symbols_of text) s → IsKeptBy s state after → IsKeptIn text state after
left_by text s state after spelled (inl same) = inl same
left_by text s state after spelled (inr partly) = inr (s, spelled, partly)

pub steps_of : {D : Type 0} (disk : Ghosts D) (files : Files) (text : List ℕ) (s : Statement) (is : Running) {old new : D} (result : Result Answer StoreFault) (state : State) → Spells (symbols_of text) s → Answers disk files s is old new result state
    → Steps disk files text is old new (of_text result) state
steps_of disk files text s is {old} {new} (Ok a) state spelled answers =
    let (after, answer, there) = answers.done in
    record {
      done = (after, step_of text state files s a.text.items a.refusal after spelled answer, there);
      undone = λ wants. absurd (cc);
      unread = λ wants. absurd (cc);
      unblamed = tt;
      any_moment = leaves_wider disk (λ x either. stepped_wider text files s state x spelled either) answers.any_moment;
    }
steps_of disk files text s is {old} {new} (Err f) state spelled answers = record {
  done = tt;
  undone = λ wants.
      let (after, kept, there) = answers.undone (ap (λ (e : StoreFault). Err e) (memory_of f (err_same {X = Answer} (of_store f) step.Memory wants))) in
      (after, left_by text s state after spelled kept, there);
  unread = λ wants. absurd (never_read f (err_same {X = Answer} (of_store f) step.Read wants));
  unblamed = unblamed_of f answers.unblamed;
  any_moment = leaves_wider disk (λ x either. stepped_wider text files s state x spelled either) answers.any_moment;
}

pub wrong_steps : {D E : Type 0} (disk : Ghosts D) (files : Files) (text : List ℕ) (is : Running) (now : D) (place : ℕ) (r : Result Answer E) (state : State) → IsPlace Spells (symbols_of text) place → IfOk r (Refused (Refusal.Syntax place)) → IsState disk is now state
    → Images disk now state → Steps disk files text is now now (of_text (of_memory r)) state
wrong_steps disk files text is now place (Ok a) state wrong refused here images = record {
  done = (state, wrong_step text state files a.text.items a.refusal place wrong refused.text refused.refusal, here);
  undone = λ wants. absurd (cc);
  unread = λ wants. absurd (cc);
  unblamed = tt;
  any_moment = still_leaves disk now state (TextMayLeave files text state) here.sound.database images;
}
wrong_steps disk files text is now place (Err e) state wrong refused here images = record {
  done = tt;
  undone = λ wants. (state, inl refl, here);
  unread = λ wants. absurd (cc);
  unblamed = tt;
  any_moment = still_leaves disk now state (TextMayLeave files text state) here.sound.database images;
}

abbrev short : Result Answer StoreFault
short = Err store.Memory

pub unread_steps : {D : Type 0} (disk : Ghosts D) (files : Files) (text : List ℕ) (is : Running) (now : D) (state : State) → IsState disk is now state → Images disk now state → Steps disk files text is now now (of_text short) state
unread_steps disk files text is now state here images = record {
  done = tt;
  undone = λ wants. (state, inl refl, here);
  unread = λ wants. absurd (cc);
  unblamed = tt;
  any_moment = still_leaves disk now state (TextMayLeave files text state) here.sound.database images;
}
