-- One statement text that is run, and the mover's steps behind it.
use Rattle.std.proofs.Common.{ℕ, ◌+◌, ◌≡◌, ◌<◌, ◌∙◌, inl, inr, Bool, List, refl, sym, ap, subst}
use Rattle.std.specs.Prelude.{Option, Some, None, Result, Ok, Err, is_some}
use Rattle.common_laws.specs.Told.{Appends, AppendsFront}
use Rattle.col_disk.specs.Moved.{Leaves}
use Rattle.col_disk.specs.declared.disk.Disk.{Ghosts}
use Rattle.col_disk.specs.declared.disk.StoreFault.{StoreFault}
use Rattle.col_disk.proofs.Moving.{leaves_join, leaves_wider}
use Rattle.sql_tree.specs.declared.refusal.Refusal.{Refusal}
use Rattle.db_model.specs.State.{State}
use Rattle.db_model.specs.Loading.{Files}
use Rattle.db_model.specs.Mover.{MoverSteps, MoverRuns}
use Rattle.store_step.specs.Running.{Running, IsState}
use Rattle.store_step.specs.Cuts.{CutBeforeOrAfter}
use Rattle.store_step.specs.declared.answer.Answer.{Answer}
use Rattle.store_step.specs.declared.answer.StepFault.{StepFault}
use Rattle.store_step.specs.Steps.{Steps, SteppedTo, TextMayLeave, MoverStepped}
use Rattle.store_step.specs.Works.{WorksOf}
use Rattle.vert_cli.specs.declared.faults.Outcome.{Outcome}
use Rattle.vert_cli.specs.declared.faults.RunFault.{RunFault}
use Rattle.vert_cli.specs.Sessions.{Sitting, sitting}
use Rattle.vert_cli.specs.Statements.{refusal_in, outcome_of, fault_of, fault_of_step, Answered, AnsweredPart, StoppedIn, Executed, CutInMover, StoppedMover, MovedOn}
use Rattle.vert_cli.specs.Runs.{setting_of, StopsInText, CutInText, TakesMore, RanText}
use Rattle.vert_cli.proofs.Taking.{more_front, more_same}
use Rattle.vert_cli.proofs.Cuts.{leaves_still, left_now, images_from, images_reopen, in_text, mover_next, runs_more}
use Rattle.vert_cli.proofs.Running.{passes_of}

-- ---- a statement text that isn't answered

stopped_by : {D : Type 0} (disk : Ghosts D) (files : Files) (text : List ℕ) (is : Running) (old new : D) (fault : StepFault) (state : State) (told : Option (List ℕ))
    → Steps disk files text is old new (Err fault) state → StoppedIn disk files text is new state told told (fault_of_step fault)
stopped_by disk files text is old new StepFault.Read state told steps = let same = steps.unread refl in (same.0, refl, same.1)
stopped_by disk files text is old new StepFault.Disk state told steps = refl
stopped_by disk files text is old new (StepFault.Damaged name) state told steps = absurd (steps.unblamed)
stopped_by disk files text is old new StepFault.Memory state told steps = let kept = steps.undone refl in inl (refl, kept.0, kept.1, kept.2)

pub not_answered : {D : Type 0} (disk : Ghosts D) (files : Files) (text : List ℕ) (is : Running) (old new : D) (fault : StepFault) (state : State) (told : Option (List ℕ))
    → Steps disk files text is old new (Err fault) state → Executed disk files text is old new (Err (fault_of_step fault)) state told told
not_answered disk files text is old new fault state told steps = record { done = tt; stopped = stopped_by disk files text is old new fault state told steps; any_moment = steps.any_moment }

-- ---- one that is answered, and then written

told_again : (why : Option Refusal) → refusal_in (outcome_of why) ≡ why
told_again None = refl
told_again (Some why) = refl

pub written : {D : Type 0} (disk : Ghosts D) (files : Files) (text : List ℕ) (is : Running) (old new : D) (a : Answer) (state : State) (before after : Option (List ℕ))
    → Steps disk files text is old new (Ok a) state → Appends before after a.text.items → Executed disk files text is old new (Ok (outcome_of a.refusal)) state before after
written disk files text is old new a state before after steps taken =
    let done = steps.done in
    record {
      done = (
        done.0,
        subst (λ (why : Option Refusal). Answered files state text why done.0 before after) (sym (told_again a.refusal)) (record { printed = a.text.items; step = done.1; taken = taken }),
        done.2,
      );
      stopped = tt;
      any_moment = steps.any_moment;
    }

part : {D : Type 0} (disk : Ghosts D) (files : Files) (text : List ℕ) (is : Running) (old new : D) (a : Answer) (state : State) (before after : Option (List ℕ))
    → Steps disk files text is old new (Ok a) state → AppendsFront before after a.text.items → (next : State) × AnsweredPart files state text next before after × IsState disk is new next
part disk files text is old new a state before after steps taken =
    let done = steps.done in
    (done.0, record { printed = a.text.items; refusal = a.refusal; step = done.1; taken = taken }, done.2)

pub sink_failed : {D : Type 0} (disk : Ghosts D) (files : Files) (text : List ℕ) (is : Running) (old new : D) (a : Answer) (state : State) (before after : Option (List ℕ))
    → Steps disk files text is old new (Ok a) state → AppendsFront before after a.text.items → Executed disk files text is old new (Err RunFault.Sink) state before after
sink_failed disk files text is old new a state before after steps taken =
    record { done = tt; stopped = part disk files text is old new a state before after steps taken; any_moment = steps.any_moment }

pub sink_short : {D : Type 0} (disk : Ghosts D) (files : Files) (text : List ℕ) (is : Running) (old new : D) (a : Answer) (state : State) (before after : Option (List ℕ))
    → Steps disk files text is old new (Ok a) state → AppendsFront before after a.text.items → Executed disk files text is old new (Err RunFault.Memory) state before after
sink_short disk files text is old new a state before after steps taken =
    record { done = tt; stopped = inr (part disk files text is old new a state before after steps taken); any_moment = steps.any_moment }

-- ---- the same over a session as it is seen

pub seen_state : {D : Type 0} (disk : Ghosts D) (s : Running) (b : Bool) (now : Sitting) (old : D) (state : State) → sitting s b ≡ now → IsState disk now.running old state → IsState disk s old state
seen_state disk s b now old state view here = subst (λ (r : Running). IsState disk r old state) (sym (ap (λ (x : Sitting). x.running) view)) here

pub not_answered_at : {D : Type 0} (disk : Ghosts D) (files : Files) (text : List ℕ) (is now : Running) (old new : D) (fault : StepFault) (noted : RunFault) (state : State) (told : Option (List ℕ))
    → noted ≡ fault_of_step fault → now ≡ is → Steps disk files text is old new (Err fault) state → Executed disk files text now old new (Err noted) state told told
not_answered_at disk files text is now old new fault noted state told noted_is same steps =
    subst (λ (f : RunFault). Executed disk files text now old new (Err f) state told told) (sym noted_is)
    (subst (λ (r : Running). Executed disk files text r old new (Err (fault_of_step fault)) state told told) (sym same) (not_answered disk files text is old new fault state told steps))

pub written_at : {D : Type 0} (disk : Ghosts D) (files : Files) (text piece : List ℕ) (is : Running) (old new : D) (a : Answer) (outcome : Outcome) (state : State) (before after : Option (List ℕ))
    → outcome ≡ outcome_of a.refusal → piece ≡ a.text.items → Steps disk files text is old new (Ok a) state → Appends before after piece → Executed disk files text is old new (Ok outcome) state before after
written_at disk files text piece is old new a outcome state before after outcome_is piece_is steps taken =
    subst (λ (o : Outcome). Executed disk files text is old new (Ok o) state before after) (sym outcome_is)
    (written disk files text is old new a state before after steps (subst (λ (p : List ℕ). Appends before after p) piece_is taken))

pub sink_failed_at : {D : Type 0} (disk : Ghosts D) (files : Files) (text piece : List ℕ) (is : Running) (old new : D) (a : Answer) (state : State) (before after : Option (List ℕ))
    → piece ≡ a.text.items → Steps disk files text is old new (Ok a) state → AppendsFront before after piece → Executed disk files text is old new (Err RunFault.Sink) state before after
sink_failed_at disk files text piece is old new a state before after piece_is steps taken =
    sink_failed disk files text is old new a state before after steps (subst (λ (p : List ℕ). AppendsFront before after p) piece_is taken)

pub sink_short_at : {D : Type 0} (disk : Ghosts D) (files : Files) (text piece : List ℕ) (is : Running) (old new : D) (a : Answer) (state : State) (before after : Option (List ℕ))
    → piece ≡ a.text.items → Steps disk files text is old new (Ok a) state → AppendsFront before after piece → Executed disk files text is old new (Err RunFault.Memory) state before after
sink_short_at disk files text piece is old new a state before after piece_is steps taken =
    sink_short disk files text is old new a state before after steps (subst (λ (p : List ℕ). AppendsFront before after p) piece_is taken)

pub none_where_done : (why : Option Refusal) → outcome_of why ≡ Outcome.Done → why ≡ None
none_where_done None is = refl
none_where_done (Some why) is = absurd (cc)

pub worked_at : {D : Type 0} (disk : Ghosts D) (text : List ℕ) (s is : Running) (b : Bool) (seen : Sitting) (now : D) (a : Answer) (outcome : Outcome) → sitting s b ≡ seen → outcome ≡ outcome_of a.refusal
    → (a.refusal ≡ None → (state : State) → IsState disk s now state → WorksOf text s is) → outcome ≡ Outcome.Done → (state : State) → IsState disk seen.running now state → WorksOf text seen.running is
worked_at disk text s is b seen now a outcome view outcome_is works =
    subst (λ (x : Sitting). outcome ≡ Outcome.Done → (state : State) → IsState disk x.running now state → WorksOf text x.running is) view
    (λ done state here. works (none_where_done a.refusal (sym outcome_is ∙ done)) state here)

-- ---- the mover

-- so many steps were made
pub record Moving {D : Type 0} (disk : Ghosts D) (steps made : ℕ) (is : Running) (old now : D) (state : State) : Type 0 where
  pub mid : State
  pub runs : MoverRuns made state mid
  pub stands : IsState disk is now mid
  pub any_moment : Leaves disk (CutInMover steps state) old now

pub not_moved : {D : Type 0} (disk : Ghosts D) (steps : ℕ) (is : Running) (now : D) (state : State) → IsState disk is now state → Moving disk steps 0 is now now state
not_moved disk steps is now state here = record { mid = state; runs = refl; stands = here; any_moment = leaves_still disk now (λ x image. inl (images_from disk now is state here x image)) }

left_wider : {D : Type 0} (disk : Ghosts D) (steps made : ℕ) (old now new : D) (state mid : State) → made < steps → MoverRuns made state mid → Leaves disk (CutInMover steps state) old now
    → Leaves disk (CutBeforeOrAfter mid (MoverSteps mid)) now new → Leaves disk (CutInMover steps state) old new
left_wider disk steps made old now new state mid below runs first second = leaves_join disk first (leaves_wider disk (mover_next steps made state mid below runs) second)

pub moved_more : {D : Type 0} (disk : Ghosts D) (steps made : ℕ) (is was : Running) (old now new : D) (state : State) (u : Unit {0}) → made < steps → (so_far : Moving disk steps made was old now state)
    → MoverStepped disk is now new (Ok u) so_far.mid → Moving disk steps (made + 1) is old new state
moved_more disk steps made is was old now new state u below so_far step =
    let done = step.done in
    record {
      mid = done.0;
      runs = runs_more made state so_far.mid done.0 so_far.runs done.1;
      stands = done.2;
      any_moment = left_wider disk steps made old now new state so_far.mid below so_far.runs so_far.any_moment step.any_moment;
    }

abbrev all_made : Result (Unit {0}) RunFault
all_made = Ok tt

pub moved_all : {D : Type 0} (disk : Ghosts D) (steps : ℕ) (is : Running) (old now : D) (state : State) → Moving disk steps steps is old now state → MovedOn disk steps is old now all_made state
moved_all disk steps is old now state moving = record { done = (moving.mid, moving.runs, moving.stands); stopped = tt; any_moment = moving.any_moment }

mover_stops : {D : Type 0} (disk : Ghosts D) (steps made : ℕ) (is : Running) (now new : D) (state mid : State) (fault : StoreFault) → made < steps → MoverRuns made state mid → MoverStepped disk is now new (Err fault) mid
    → StoppedMover disk steps is new state (fault_of fault)
mover_stops disk steps made is now new state mid StoreFault.Disk below runs step = tt
mover_stops disk steps made is now new state mid (StoreFault.Damaged name) below runs step = absurd (step.unblamed)
mover_stops disk steps made is now new state mid StoreFault.Memory below runs step = (mid, record { moves = made; below = below; runs = runs }, step.undone refl)

abbrev stopped_for : RunFault → Result (Unit {0}) RunFault
stopped_for fault = Err fault

pub moved_part : {D : Type 0} (disk : Ghosts D) (steps made : ℕ) (is was : Running) (old now new : D) (state : State) (fault : StoreFault) → made < steps → (so_far : Moving disk steps made was old now state)
    → MoverStepped disk is now new (Err fault) so_far.mid → MovedOn disk steps is old new (stopped_for (fault_of fault)) state
moved_part disk steps made is was old now new state fault below so_far step = record {
  done = tt;
  stopped = mover_stops disk steps made is now new state so_far.mid fault below so_far.runs step;
  any_moment = left_wider disk steps made old now new state so_far.mid below so_far.runs so_far.any_moment step.any_moment;
}

-- the same over a session as it is seen
pub moved_at : {D : Type 0} (disk : Ghosts D) (steps : ℕ) (is now : Running) (old new : D) (result : Result (Unit {0}) RunFault) (state : State) → now ≡ is → MovedOn disk steps is old new result state
    → MovedOn disk steps now old new result state
moved_at disk steps is now old new result state same moved = subst (λ (r : Running). MovedOn disk steps r old new result state) (sym same) moved

pub mover_failed_at : {D : Type 0} (disk : Ghosts D) (steps : ℕ) (is now : Running) (old new : D) (fault noted : RunFault) (state : State) → noted ≡ fault → now ≡ is → MovedOn disk steps is old new (stopped_for fault) state
    → MovedOn disk steps now old new (stopped_for noted) state
mover_failed_at disk steps is now old new fault noted state noted_is same moved =
    moved_at disk steps is now old new (stopped_for noted) state same (subst (λ (f : RunFault). MovedOn disk steps is old new (stopped_for f) state) (sym noted_is) moved)

-- ---- a text and the mover's steps behind it

took : {D : Type 0} (disk : Ghosts D) (files : Files) (steps : ℕ) (halts : Bool) (text : List ℕ) (is : Running) (old new : D) (state : State) (before after : Option (List ℕ)) (fault : RunFault)
    → Leaves disk (CutBeforeOrAfter state (TextMayLeave files text state)) old new → StoppedIn disk files text is new state before after fault
    → StopsInText disk (setting_of files steps halts) state text new before after fault × TakesMore before after
took disk files steps halts text is old new state before after RunFault.Sink moments (next, part, here) =
    (record { new = next; part = part; left = images_reopen disk new is next here }, more_front before after part.printed part.taken)
took disk files steps halts text is old new state before after RunFault.Disk moments same =
    (inl (record { untaken = same; left = left_now disk moments }), more_same before after same)
took disk files steps halts text is old new state before after (RunFault.Damaged name) moments none = absurd none
took disk files steps halts text is old new state before after RunFault.Memory moments (inl (same, next, kept, here)) =
    (inl (record { untaken = same; new = next; kept = kept; left = images_reopen disk new is next here }), more_same before after same)
took disk files steps halts text is old new state before after RunFault.Memory moments (inr (next, part, here)) =
    (inr (inl (record { new = next; part = part; left = images_reopen disk new is next here })), more_front before after part.printed part.taken)
took disk files steps halts text is old new state before after RunFault.Read moments (copy, same, here) =
    (record { copy = copy; untaken = same; left = images_reopen disk new is state here }, more_same before after same)
took disk files steps halts text is old new state before after RunFault.Halted moments none = absurd none

pub text_stopped : {D : Type 0} (disk : Ghosts D) (files : Files) (steps : ℕ) (halts : Bool) (text : List ℕ) (is : Running) (old new : D) (fault : RunFault) (state : State) (before after : Option (List ℕ))
    → Executed disk files text is old new (Err fault) state before after → RanText disk (setting_of files steps halts) text is old new (Err fault) state before after
text_stopped disk files steps halts text is old new fault state before after executed =
    let stops = took disk files steps halts text is old new state before after fault executed.any_moment executed.stopped in
    record {
      done = tt;
      stopped = stops.0;
      taken = stops.1;
      any_moment = leaves_wider disk (λ x left. inl left) executed.any_moment;
    }

text_leaves : {D : Type 0} (disk : Ghosts D) (files : Files) (steps : ℕ) (halts : Bool) (text : List ℕ) (is : Running) (old mid new : D) (state answered : State)
    → IsState disk is old state → SteppedTo files text state answered → Leaves disk (CutBeforeOrAfter state (TextMayLeave files text state)) old mid → Leaves disk (CutInMover steps answered) mid new
    → Leaves disk (CutInText (setting_of files steps halts) state text) old new
text_leaves disk files steps halts text is old mid new state answered here stepped first second =
    leaves_join disk (leaves_wider disk (λ x left. inl left) first) (leaves_wider disk (in_text files steps halts text state answered here.sound.database stepped) second)

stops_moving : {D : Type 0} (disk : Ghosts D) (files : Files) (steps : ℕ) (halts : Bool) (text : List ℕ) (is : Running) (mid new : D) (state answered : State) (why : Option Refusal) (before after : Option (List ℕ)) (fault : RunFault)
    → Answered files state text why answered before after → Leaves disk (CutInMover steps answered) mid new → StoppedMover disk steps is new answered fault
    → StopsInText disk (setting_of files steps halts) state text new before after fault
stops_moving disk files steps halts text is mid new state answered why before after RunFault.Sink whole moments none = absurd none
stops_moving disk files steps halts text is mid new state answered why before after RunFault.Disk whole moments failed =
    inr (record { answered = answered; refusal = why; whole = whole; left = left_now disk moments })
stops_moving disk files steps halts text is mid new state answered why before after (RunFault.Damaged name) whole moments none = absurd none
stops_moving disk files steps halts text is mid new state answered why before after RunFault.Memory whole moments (next, moved, here) =
    inr (inr (record { answered = answered; refusal = why; whole = whole; new = next; moved = moved; left = images_reopen disk new is next here }))
stops_moving disk files steps halts text is mid new state answered why before after RunFault.Read whole moments none = absurd none
stops_moving disk files steps halts text is mid new state answered why before after RunFault.Halted whole moments none = absurd none

-- the text was answered, and then the mover failed
pub mover_stopped : {D : Type 0} (disk : Ghosts D) (files : Files) (steps : ℕ) (halts : Bool) (text : List ℕ) (was between is : Running) (old mid new : D) (outcome : Outcome) (fault : RunFault) (state : State) (before after : Option (List ℕ))
    → IsState disk was old state → (executed : Executed disk files text between old mid (Ok outcome) state before after)
    → ((answered : State) → IsState disk between mid answered → MovedOn disk steps is mid new (Err fault) answered)
    → RanText disk (setting_of files steps halts) text is old new (Err fault) state before after
mover_stopped disk files steps halts text was between is old mid new outcome fault state before after here executed moves =
    let done = executed.done in
    let moved = moves done.0 done.2 in
    let stepped : SteppedTo files text state done.0 = (done.1.printed, refusal_in outcome, done.1.step) in
    record {
      done = tt;
      stopped = stops_moving disk files steps halts text is mid new state done.0 (refusal_in outcome) before after fault done.1 moved.any_moment moved.stopped;
      taken = (done.1.printed, done.1.taken);
      any_moment = text_leaves disk files steps halts text was old mid new state done.0 here stepped executed.any_moment moved.any_moment;
    }

-- both were done
pub text_ran : {D : Type 0} (disk : Ghosts D) (files : Files) (steps : ℕ) (halts : Bool) (text : List ℕ) (was between is : Running) (old mid new : D) (outcome : Outcome) (u : Unit {0}) (refused : Bool) (state : State) (before after : Option (List ℕ))
    → refused ≡ is_some (refusal_in outcome) → IsState disk was old state → (executed : Executed disk files text between old mid (Ok outcome) state before after)
    → ((answered : State) → IsState disk between mid answered → MovedOn disk steps is mid new (Ok u) answered)
    → RanText disk (setting_of files steps halts) text is old new (Ok refused) state before after
text_ran disk files steps halts text was between is old mid new outcome u refused state before after refused_is here executed moves =
    let done = executed.done in
    let moved = moves done.0 done.2 in
    let stepped : SteppedTo files text state done.0 = (done.1.printed, refusal_in outcome, done.1.step) in
    record {
      done = (
        refusal_in outcome,
        moved.done.0,
        done.1.printed,
        passes_of files steps halts state done.0 moved.done.0 text (refusal_in outcome) before after done.1 moved.done.1,
        done.1.taken,
        moved.done.2,
        refused_is,
      );
      stopped = tt;
      taken = (done.1.printed, done.1.taken);
      any_moment = text_leaves disk files steps halts text was old mid new state done.0 here stepped executed.any_moment moved.any_moment;
    }
