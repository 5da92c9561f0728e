-- Statement texts that are run one after the other: what the sink took of their text, where they stopped, and what a crash leaves.
use Rattle.std.specs.Prelude.{ℕ, ◌≡◌, ◌⊎◌, ◌<◌, ◌++◌, List, [], ◌∷◌, take, drop, Bool, false, Option, is_some, Result, IfOk, IfErr}
use Rattle.common_laws.specs.Maps.{Contents}
use Rattle.common_laws.specs.Told.{Appends}
use Rattle.col_disk.specs.Moved.{ImageOf, Leaves}
use Rattle.col_disk.specs.declared.disk.Disk.{Ghosts}
use Rattle.db_model.specs.State.{State}
use Rattle.db_model.specs.Loading.{Files}
use Rattle.db_model.specs.Mover.{MoverSteps, MoverRuns}
use Rattle.sql_tree.specs.declared.refusal.Refusal.{Refusal}
use Rattle.db_model.specs.Run.{Setting, Passes, RunTexts, all_dropped, EndsUnless}
use Rattle.store_step.specs.Running.{Running, IsState}
use Rattle.store_step.specs.Events.{ReopensTo}
use Rattle.store_step.specs.Cuts.{CutBeforeOrAfter, IsKeptButJob}
use Rattle.store_step.specs.Forms.{is_served}
use Rattle.store_step.specs.Steps.{EndedAs, IsKeptIn, SaysCopy, SteppedTo, TextMayLeave}
use Rattle.vert_cli.specs.declared.faults.RunFault.{RunFault}
use Rattle.vert_cli.specs.declared.faults.Status.{Status}
use Rattle.vert_cli.specs.Statuses.{status_of, status_of_run}
use Rattle.vert_cli.specs.Statements.{Answered, AnsweredPart, CutInMover, MovedPart}

-- the setting of a run: the forms that are served, its load files, and what its words ask for
abbrev pub setting_of : Files → ℕ → Bool → Setting
setting_of files steps halts = record { serves = is_served; files = files; steps = steps; halts = halts }

-- ---- what a crash leaves now, where a run stopped

-- it is one of these
abbrev pub LeavesNow : {D : Type 0} → Ghosts D → (Contents → Type 0) → D → Type 0
LeavesNow disk P now = (x : Contents) → ImageOf disk now x → P x

-- it reopens to the database of a state, cut at its last good epoch
abbrev pub IsLeft : {D : Type 0} → Ghosts D → D → State → Type 0
IsLeft disk now state = LeavesNow disk (ReopensTo state) now

-- the statement has taken effect, and of its answer the sink took a front
pub record StopsWriting {D : Type 0} (disk : Ghosts D) (files : Files) (old : State) (text : List ℕ) (now : D) (before after : Option (List ℕ)) : Type 0 where
  pub new : State
  pub part : AnsweredPart files old text new before after
  pub left : IsLeft disk now new

-- the sink took nothing, and the state is as before, but for jobs that were done
pub record StopsUnanswered {D : Type 0} (disk : Ghosts D) (Kept : State → State → Type 0) (old : State) (now : D) (before after : Option (List ℕ)) : Type 0 where
  pub untaken : after ≡ before
  pub new : State
  pub kept : Kept old new
  pub left : IsLeft disk now new

-- the sink took the whole answer, and some of the mover's steps behind it were made
pub record StopsMoving {D : Type 0} (disk : Ghosts D) (setting : Setting) (old : State) (text : List ℕ) (now : D) (before after : Option (List ℕ)) : Type 0 where
  pub answered : State
  pub refusal : Option Refusal
  pub whole : Answered setting.files old text refusal answered before after
  pub new : State
  pub moved : MovedPart setting.steps answered new
  pub left : IsLeft disk now new

-- the disk failed in the statement, and the sink took nothing
pub record FailsUnanswered {D : Type 0} (disk : Ghosts D) (files : Files) (old : State) (text : List ℕ) (now : D) (before after : Option (List ℕ)) : Type 0 where
  pub untaken : after ≡ before
  pub left : LeavesNow disk (CutBeforeOrAfter old (TextMayLeave files text old)) now

-- the disk failed in the mover's steps, and the sink took the whole answer
pub record FailsMoving {D : Type 0} (disk : Ghosts D) (setting : Setting) (old : State) (text : List ℕ) (now : D) (before after : Option (List ℕ)) : Type 0 where
  pub answered : State
  pub refusal : Option Refusal
  pub whole : Answered setting.files old text refusal answered before after
  pub left : LeavesNow disk (CutInMover setting.steps answered) now

-- the load file of a COPY couldn't be read, and nothing changed
pub record StopsUnread {D : Type 0} (disk : Ghosts D) (old : State) (text : List ℕ) (now : D) (before after : Option (List ℕ)) : Type 0 where
  pub copy : SaysCopy text
  pub untaken : after ≡ before
  pub left : IsLeft disk now old

-- where a run stopped in a statement text or in the mover's steps behind it, by the fault
abbrev pub StopsInText : {D : Type 0} → Ghosts D → Setting → State → List ℕ → D → Option (List ℕ) → Option (List ℕ) → RunFault → Type 0
StopsInText disk setting state text now before after RunFault.Sink = StopsWriting disk setting.files state text now before after
StopsInText disk setting state text now before after RunFault.Disk = FailsUnanswered disk setting.files state text now before after ⊎ FailsMoving disk setting state text now before after
StopsInText disk setting state text now before after (RunFault.Damaged name) = ⊥
StopsInText disk setting state text now before after RunFault.Memory =
    StopsUnanswered disk (IsKeptIn text) state now before after ⊎ (StopsWriting disk setting.files state text now before after ⊎ StopsMoving disk setting state text now before after)
StopsInText disk setting state text now before after RunFault.Read = StopsUnread disk state text now before after
StopsInText disk setting state text now before after RunFault.Halted = ⊥

-- and where it stopped in the end of the script, which drops what no session has committed
abbrev pub StopsInEnd : {D : Type 0} → Ghosts D → State → D → Option (List ℕ) → Option (List ℕ) → RunFault → Type 0
StopsInEnd disk state now before after RunFault.Sink = ⊥
StopsInEnd disk state now before after RunFault.Disk = (after ≡ before) × LeavesNow disk (CutBeforeOrAfter state (EndedAs state)) now
StopsInEnd disk state now before after (RunFault.Damaged name) = ⊥
StopsInEnd disk state now before after RunFault.Memory = StopsUnanswered disk IsKeptButJob (all_dropped state) now before after
StopsInEnd disk state now before after RunFault.Read = ⊥
StopsInEnd disk state now before after RunFault.Halted = ⊥

-- where it stopped in the first of the texts that were left, or in the end where none was
abbrev pub StopsInNext : {D : Type 0} → Ghosts D → Setting → State → List (List ℕ) → D → Option (List ℕ) → Option (List ℕ) → RunFault → Type 0
StopsInNext disk setting state [] now before after fault = (setting.halts ≡ false) × StopsInEnd disk state now before after fault
StopsInNext disk setting state (text ∷ more) now before after fault = StopsInText disk setting state text now before after fault

-- ---- how a run of statement texts over a state ends

-- All of them ran, and the sink took exactly what they print; then came the end, where the run doesn't halt without it; and whatever a
-- crash leaves now reopens to the tables that were left then, cut at their last good epoch.
pub record RanToItsEnd {D : Type 0} (status : Status) (disk : Ghosts D) (setting : Setting) (start : State) (texts : List (List ℕ)) (now : D) (before after : Option (List ℕ)) : Type 0 where
  pub refused : Bool
  pub status_is : status ≡ status_of_run refused
  pub printed : List ℕ
  pub mid : State
  pub ran : RunTexts setting start texts printed refused mid
  pub taken : Appends before after printed
  pub new : State
  pub ends : EndsUnless setting.halts mid new
  pub left : IsLeft disk now new

-- The first of them ran, and the sink took exactly what they print; in the next one, or in the end behind the last, the run stopped.
pub record RanAndStopped {D : Type 0} (status : Status) (disk : Ghosts D) (setting : Setting) (start : State) (texts : List (List ℕ)) (now : D) (before after : Option (List ℕ)) : Type 0 where
  pub fault : RunFault
  pub status_is : status ≡ status_of fault
  pub count : ℕ
  pub printed : List ℕ
  pub refused : Bool
  pub mid : State
  pub between : Option (List ℕ)
  pub ran : RunTexts setting start (take count texts) printed refused mid
  pub taken : Appends before between printed
  pub stops : StopsInNext disk setting mid (drop count texts) now between after fault

-- ---- what a crash leaves on the way

-- What a crash leaves in a statement text or in one of the mover's steps behind it: each of them is an event of its own.
abbrev pub CutInText : Setting → State → List ℕ → Contents → Type 0
CutInText setting mid text x =
    CutBeforeOrAfter mid (TextMayLeave setting.files text mid) x
    ⊎ ((answered : State) × SteppedTo setting.files text mid answered × (moves : ℕ) × (moves < setting.steps) × (state : State) × MoverRuns moves answered state
    × CutBeforeOrAfter state (MoverSteps state) x)

-- the same behind the last text, in the end of the script
abbrev pub CutInNext : Setting → State → List (List ℕ) → Contents → Type 0
CutInNext setting mid [] x = CutBeforeOrAfter mid (EndsUnless setting.halts mid) x
CutInNext setting mid (text ∷ more) x = CutInText setting mid text x

-- what the sink took is a text with others behind it
abbrev pub TakesFirst : Option (List ℕ) → Option (List ℕ) → List ℕ → Type 0
TakesFirst before after printed = (more : List ℕ) × Appends before after (printed ++ more)

-- Whatever a crash leaves in a run reopens to the tables before or after the event in work, cut at a closed epoch that is no earlier than the
-- last good one before it; the first texts had run by then, and what they print is the first that the sink took in the run.
pub record IsOnTheWay (setting : Setting) (start : State) (texts : List (List ℕ)) (before after : Option (List ℕ)) (x : Contents) : Type 0 where
  pub count : ℕ
  pub printed : List ℕ
  pub refused : Bool
  pub mid : State
  pub ran : RunTexts setting start (take count texts) printed refused mid
  pub taken : TakesFirst before after printed
  pub left : CutInNext setting mid (drop count texts) x

-- ---- one text, and several

-- what the sink took behind what it had taken
abbrev pub TakesMore : Option (List ℕ) → Option (List ℕ) → Type 0
TakesMore before after = (more : List ℕ) × Appends before after more

-- one statement text with the mover's steps behind it
pub record RanText {D : Type 0} (disk : Ghosts D) (setting : Setting) (text : List ℕ) (is : Running) (old new : D) (result : Result Bool RunFault) (state : State) (before after : Option (List ℕ)) : Type 0 where
  pub done : IfOk result (λ refused. (why : Option Refusal) × (next : State) × (printed : List ℕ) × Passes setting state text printed why next × Appends before after printed
      × IsState disk is new next × (refused ≡ is_some why))
  pub stopped : IfErr result (StopsInText disk setting state text new before after)
  pub taken : TakesMore before after
  pub any_moment : Leaves disk (CutInText setting state text) old new

-- statement texts over a state
pub record RanTexts {D : Type 0} (disk : Ghosts D) (setting : Setting) (texts : List (List ℕ)) (is : Running) (old new : D) (result : Result Bool RunFault) (start : State) (before after : Option (List ℕ)) : Type 0 where
  pub done : IfOk result (λ refused. (state : State) × (printed : List ℕ) × RunTexts setting start texts printed refused state × Appends before after printed × IsState disk is new state)
  pub stopped : IfErr result (λ fault. RanAndStopped (status_of fault) disk setting start texts new before after)
  pub any_moment : Leaves disk (IsOnTheWay setting start texts before after) old new
