-- One statement that is run and whose text is written, and the mover's steps behind it.
use Rattle.std.specs.Prelude.{ℕ, ◌≡◌, ◌⊎◌, ◌<◌, List, Option, Some, None, Result, Ok, Err, IfOk, IfErr, OnOk}
use Rattle.common_laws.specs.Maps.{Contents}
use Rattle.common_laws.specs.Told.{Appends, AppendsFront}
use Rattle.col_disk.specs.Moved.{Leaves}
use Rattle.col_disk.specs.declared.disk.Disk.{Ghosts}
use Rattle.col_disk.specs.declared.disk.StoreFault.{StoreFault}
use Rattle.sql_tree.specs.declared.refusal.Refusal.{Refusal}
use Rattle.db_model.specs.State.{State}
use Rattle.db_model.specs.Loading.{Files}
use Rattle.db_model.specs.Epochs.{last_good}
use Rattle.db_model.specs.Mover.{MoverSteps, MoverRuns}
use Rattle.db_model.specs.Step.{Step}
use Rattle.store_step.specs.Running.{Running, IsState}
use Rattle.store_step.specs.Cuts.{ReopensFrom, CutBeforeOrAfter}
use Rattle.store_step.specs.Forms.{is_served}
use Rattle.store_step.specs.Steps.{IsKeptIn, SaysCopy, TextMayLeave}
use Rattle.store_step.specs.Works.{WorksOf}
use Rattle.store_step.specs.declared.answer.StepFault.{StepFault}
use Rattle.vert_cli.specs.declared.faults.Outcome.{Outcome}
use Rattle.vert_cli.specs.declared.faults.RunFault.{RunFault}

-- the refusal that an outcome tells, if it tells one
abbrev pub refusal_in : Outcome → Option Refusal
refusal_in Outcome.Done = None
refusal_in (Outcome.Refused why) = Some why

-- the outcome that tells a refusal, if there is one
abbrev pub outcome_of : Option Refusal → Outcome
outcome_of None = Outcome.Done
outcome_of (Some why) = Outcome.Refused why

-- a fault of the store, as one of the run
abbrev pub fault_of : StoreFault → RunFault
fault_of StoreFault.Disk = RunFault.Disk
fault_of (StoreFault.Damaged name) = RunFault.Damaged name
fault_of StoreFault.Memory = RunFault.Memory

-- a fault of a statement text, as one of the run
abbrev pub fault_of_step : StepFault → RunFault
fault_of_step StepFault.Read = RunFault.Read
fault_of_step StepFault.Disk = RunFault.Disk
fault_of_step (StepFault.Damaged name) = RunFault.Damaged name
fault_of_step StepFault.Memory = RunFault.Memory

-- the same answer, its fault as one of the run
abbrev pub in_run : {T : Type 0} → Result T StoreFault → Result T RunFault
in_run (Ok done) = Ok done
in_run (Err fault) = Err (fault_of fault)

-- a step was made, and the sink took exactly what it prints
pub record Answered (files : Files) (old : State) (text : List ℕ) (refusal : Option Refusal) (new : State) (before after : Option (List ℕ)) : Type 0 where
  pub printed : List ℕ
  pub step : Step is_served old files text printed refusal new
  pub taken : Appends before after printed

-- a step was made, and of what it prints the sink took a front
pub record AnsweredPart (files : Files) (old : State) (text : List ℕ) (new : State) (before after : Option (List ℕ)) : Type 0 where
  pub printed : List ℕ
  pub refusal : Option Refusal
  pub step : Step is_served old files text printed refusal new
  pub taken : AppendsFront before after printed

-- Where memory was short, the sink took nothing and the store is the state as before, but for jobs of the statement that were done; or the sink was
-- short of memory, and the step was made.
abbrev pub ShortIn : {D : Type 0} → Ghosts D → Files → List ℕ → Running → D → State → Option (List ℕ) → Option (List ℕ) → Type 0
ShortIn disk files text is now state before after =
    ((after ≡ before) × (next : State) × IsKeptIn text state next × IsState disk is now next)
    ⊎ ((next : State) × AnsweredPart files state text next before after × IsState disk is now next)

-- A statement text wasn't answered whole. After a fault of the sink the step was made; of the other faults but want of memory the sink took
-- nothing. A load file that couldn't be read is a COPY's, and nothing changed. No file is blamed over a state.
abbrev pub StoppedIn : {D : Type 0} → Ghosts D → Files → List ℕ → Running → D → State → Option (List ℕ) → Option (List ℕ) → RunFault → Type 0
StoppedIn disk files text is now state before after RunFault.Sink = (next : State) × AnsweredPart files state text next before after × IsState disk is now next
StoppedIn disk files text is now state before after RunFault.Disk = after ≡ before
StoppedIn disk files text is now state before after (RunFault.Damaged name) = ⊥
StoppedIn disk files text is now state before after RunFault.Memory = ShortIn disk files text is now state before after
StoppedIn disk files text is now state before after RunFault.Read = SaysCopy text × (after ≡ before) × IsState disk is now state
StoppedIn disk files text is now state before after RunFault.Halted = ⊥

-- a statement text over a state of a session that isn't halted
pub record Executed {D : Type 0} (disk : Ghosts D) (files : Files) (text : List ℕ) (is : Running) (old new : D) (result : Result Outcome RunFault) (state : State) (before after : Option (List ℕ)) : Type 0 where
  pub done : IfOk result (λ outcome. (next : State) × Answered files state text (refusal_in outcome) next before after × IsState disk is new next)
  pub stopped : IfErr result (StoppedIn disk files text is new state before after)
  pub any_moment : Leaves disk (CutBeforeOrAfter state (TextMayLeave files text state)) old new

-- a statement text that wasn't refused, over a state of a session: what a MERGEOUT and a PURGE_TABLE leave of its store
abbrev pub HasWorked : {D : Type 0} → Ghosts D → List ℕ → Running → Running → D → Result Outcome RunFault → Type 0
HasWorked disk text was is now result = IfOk result (λ outcome. outcome ≡ Outcome.Done → (state : State) → IsState disk was now state → WorksOf text was is)

-- whatever a crash leaves reopens as the state does, or as one of the first steps of the mover behind it may leave it
abbrev pub CutInMover : ℕ → State → Contents → Type 0
CutInMover steps state x =
    ReopensFrom (last_good state.database) state x
    ⊎ ((moves : ℕ) × (moves < steps) × (mid : State) × MoverRuns moves state mid × CutBeforeOrAfter mid (MoverSteps mid) x)

-- some of the mover's steps were made, and not all
pub record MovedPart (steps : ℕ) (old new : State) : Type 0 where
  pub moves : ℕ
  pub below : moves < steps
  pub runs : MoverRuns moves old new

-- The mover's steps weren't all made. Where memory was short some were, and the store is the state that they left. No file is blamed for it.
abbrev pub StoppedMover : {D : Type 0} → Ghosts D → ℕ → Running → D → State → RunFault → Type 0
StoppedMover disk steps is now state RunFault.Sink = ⊥
StoppedMover disk steps is now state RunFault.Disk = Unit {0}
StoppedMover disk steps is now state (RunFault.Damaged name) = ⊥
StoppedMover disk steps is now state RunFault.Memory = (next : State) × MovedPart steps state next × IsState disk is now next
StoppedMover disk steps is now state RunFault.Read = ⊥
StoppedMover disk steps is now state RunFault.Halted = ⊥

-- so many steps of the mover over a state
pub record MovedOn {D : Type 0} (disk : Ghosts D) (steps : ℕ) (is : Running) (old new : D) (result : Result (Unit {0}) RunFault) (state : State) : Type 0 where
  pub done : OnOk result ((next : State) × MoverRuns steps state next × IsState disk is new next)
  pub stopped : IfErr result (StoppedMover disk steps is new state)
  pub any_moment : Leaves disk (CutInMover steps state) old new
