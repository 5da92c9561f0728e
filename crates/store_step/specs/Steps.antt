-- What a statement text, a step of the mover and the end of a script make of a running store and its disk.
use Rattle.std.specs.Prelude.{ℕ, ◌≡◌, ◌⊎◌, Bool, List, Option, Result, IfOk, IfErr, OnOk, IsErrOf}
use Rattle.col_disk.specs.Moved.{Leaves}
use Rattle.col_disk.specs.declared.disk.Disk.{Ghosts}
use Rattle.col_disk.specs.declared.disk.StoreFault.{StoreFault}
use Rattle.col_disk.specs.declared.disk.StoreFault.TheVariants as store
use Rattle.sql_words.specs.Symbols.{symbols_of}
use Rattle.sql_tree.specs.declared.refusal.Refusal.{Refusal}
use Rattle.sql_tree.specs.declared.statement.Statement.{Statement}
use Rattle.sql_tree.specs.Spells.{Spells}
use Rattle.db_model.specs.State.{State}
use Rattle.db_model.specs.Loading.{Files}
use Rattle.db_model.specs.Mover.{MovesAll, MoverSteps}
use Rattle.db_model.specs.Step.{Step}
use Rattle.db_model.specs.Run.{all_dropped}
use Rattle.store_core.specs.Running.{Running, IsState}
use Rattle.store_core.specs.Cuts.{CutBeforeOrAfter, IsKeptButJob}
use Rattle.store_step.specs.declared.answer.Answer.{Answer}
use Rattle.store_step.specs.declared.answer.StepFault.{StepFault}
use Rattle.store_step.specs.declared.answer.StepFault.TheVariants as step
use Rattle.store_step.specs.Arms.{PartlyDone, PartlyRefreshed}
use Rattle.store_step.specs.Forms.{is_served}
use Rattle.col_disk.specs.Faults.{IsUnblamed as IsUnblamedStore}
use Rattle.store_step.specs.Faults.{IsUnblamed}

-- what a statement text may leave of a state
abbrev pub SteppedTo : Files → List ℕ → State → State → Type 0
SteppedTo files text state new = (printed : List ℕ) × (why : Option Refusal) × Step is_served state files text printed why new

-- the text says COPY
abbrev pub SaysCopy : List ℕ → Type 0
SaysCopy text = (table : List ℕ) × (file : List ℕ) × Spells (symbols_of text) (Statement.Copy table file)

-- some jobs of the statement that the text says were done
abbrev pub PartlyStepped : List ℕ → State → State → Type 0
PartlyStepped text old new = (s : Statement) × Spells (symbols_of text) s × PartlyDone s old new

-- where memory was short: nothing changed, but for such jobs
abbrev pub IsKeptIn : List ℕ → State → State → Type 0
IsKeptIn text old new = (new ≡ old) ⊎ PartlyStepped text old new

-- some projections were refreshed by the REFRESH that the text says
abbrev pub PartlyRefreshedBy : List ℕ → State → State → Type 0
PartlyRefreshedBy text old new = (s : Statement) × Spells (symbols_of text) s × PartlyRefreshed s old new

-- what a crash may leave of a state
abbrev pub TextMayLeave : Files → List ℕ → State → State → Type 0
TextMayLeave files text state new = SteppedTo files text state new ⊎ PartlyRefreshedBy text state new

-- A statement text over a state: it is a step, with the text that was answered. Where memory was short the store is the state as before, but
-- for jobs of the statement that were done. A load file that can't be read is a COPY's, and then the store is the state as before.
pub record Steps {D : Type 0} (disk : Ghosts D) (files : Files) (text : List ℕ) (is : Running) (old new : D) (result : Result Answer StepFault) (state : State) : Type 0 where
  pub done : IfOk result (λ a. (after : State) × Step is_served state files text a.text.items a.refusal after × IsState disk is new after)
  pub undone : IsErrOf result step.Memory → (after : State) × IsKeptIn text state after × IsState disk is new after
  pub unread : IsErrOf result step.Read → SaysCopy text × IsState disk is new state
  pub unblamed : IfErr result IsUnblamed
  pub any_moment : Leaves disk (CutBeforeOrAfter state (TextMayLeave files text state)) old new

-- a step of the mover over a state
pub record MoverStepped {D : Type 0} (disk : Ghosts D) (is : Running) (old new : D) (result : Result (Unit {0}) StoreFault) (state : State) : Type 0 where
  pub done : OnOk result ((after : State) × MoverSteps state after × IsState disk is new after)
  pub undone : IsErrOf result store.Memory → IsState disk is new state
  pub unblamed : IfErr result IsUnblamedStore
  pub any_moment : Leaves disk (CutBeforeOrAfter state (MoverSteps state)) old new

-- what the end of a script may leave of a state
abbrev pub EndedAs : State → State → Type 0
EndedAs state new = (stopped : Bool) × MovesAll (all_dropped state) stopped new

-- The end of a script over a state. Where memory was short the store is the state with its sessions' changes dropped, and the mover's job, if
-- any.
pub record Ends {D : Type 0} (disk : Ghosts D) (is : Running) (old new : D) (result : Result (Unit {0}) StoreFault) (state : State) : Type 0 where
  pub done : OnOk result ((after : State) × EndedAs state after × IsState disk is new after)
  pub undone : IsErrOf result store.Memory → (after : State) × IsKeptButJob (all_dropped state) after × IsState disk is new after
  pub unblamed : IfErr result IsUnblamedStore
  pub any_moment : Leaves disk (CutBeforeOrAfter state (EndedAs state)) old new
