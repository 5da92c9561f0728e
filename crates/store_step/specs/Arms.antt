-- What a statement comes to, form by form.
use Rattle.std.specs.Prelude.{ℕ, ◌≡◌, ◌⊎◌, if◌then◌else◌, Bool, true, List, Option, Some, Result, Ok, Err, IfOk, IfErr, OnErr, IsErrOf}
use Rattle.col_disk.specs.Moved.{Leaves}
use Rattle.col_disk.specs.declared.disk.Disk.{Ghosts}
use Rattle.col_disk.specs.declared.disk.StoreFault.{StoreFault}
use Rattle.col_disk.specs.declared.disk.StoreFault.TheVariants as store
use Rattle.sql_tree.specs.declared.refusal.Refusal.{Refusal}
use Rattle.sql_tree.specs.declared.statement.Statement.{Statement}
use Rattle.db_model.specs.State.{State}
use Rattle.db_model.specs.Loading.{Files}
use Rattle.db_model.specs.Step.{Effect, RefusesForm}
use Rattle.store_core.specs.Running.{Running, IsState}
use Rattle.store_core.specs.Cuts.{CutBeforeOrAfter}
use Rattle.store_core.specs.Jobs.{is_of, AreDone, RefreshesOne}
use Rattle.db_model.specs.Mover.{given_up, RaisesOne}
use Rattle.sql_tree.specs.declared.statement.Function.{Function}
use Rattle.store_step.specs.declared.answer.Answer.{Answer}
use Rattle.store_step.specs.declared.answer.StepFault.{StepFault}
use Rattle.store_step.specs.Forms.{is_served}
use Rattle.col_disk.specs.Faults.{IsUnblamed as IsUnblamedStore}
use Rattle.store_step.specs.Faults.{of_store}

-- a statement was refused or not, and printed and left this
pub record IsAnswer (state : State) (files : Files) (s : Statement) (printed : List ℕ) (why : Option Refusal) (new : State) : Type 0 where
  pub decided : RefusesForm state files s (is_served s) why
  pub effect : Effect state files (Some s) why printed new

-- what a statement may leave of a state
abbrev pub AnsweredTo : Files → Statement → State → State → Type 0
AnsweredTo files s state new = (printed : List ℕ) × (why : Option Refusal) × IsAnswer state files s printed why new

-- Some jobs of a statement that has several were done, each of them as a whole. A moveout of all has one, and dropped the mover's job alone.
abbrev pub PartlyDone : Statement → State → State → Type 0
PartlyDone (Statement.Call Function.Moveout) old new = new ≡ given_up old
PartlyDone (Statement.Call Function.Mergeout) old new = AreDone (RaisesOne (λ s. true)) old new
PartlyDone (Statement.Call (Function.Purge table)) old new = AreDone (RaisesOne (is_of table old)) old new
PartlyDone (Statement.Call (Function.Refresh table)) old new = AreDone (RefreshesOne table) old new
PartlyDone s old new = ⊥

-- Of these jobs a crash tells those of a REFRESH alone: the others change no row and no cut of the tables.
abbrev pub PartlyRefreshed : Statement → State → State → Type 0
PartlyRefreshed (Statement.Call (Function.Refresh table)) old new = AreDone (RefreshesOne table) old new
PartlyRefreshed s old new = ⊥

-- where memory was short: nothing changed, but for such jobs
abbrev pub IsKeptBy : Statement → State → State → Type 0
IsKeptBy s old new = (new ≡ old) ⊎ PartlyDone s old new

-- what a crash may leave of a state
abbrev pub MayLeave : Files → Statement → State → State → Type 0
MayLeave files s state new = AnsweredTo files s state new ⊎ PartlyRefreshed s state new

-- A statement over a state.
pub record Answers {D : Type 0} (disk : Ghosts D) (files : Files) (s : Statement) (is : Running) (old new : D) (result : Result Answer StoreFault) (state : State) : Type 0 where
  pub done : IfOk result (λ a. (after : State) × IsAnswer state files s a.text.items a.refusal after × IsState disk is new after)
  pub undone : IsErrOf result store.Memory → (after : State) × IsKeptBy s state after × IsState disk is new after
  pub unblamed : IfErr result IsUnblamedStore
  pub any_moment : Leaves disk (CutBeforeOrAfter state (MayLeave files s state)) old new

-- A statement that calls no disk, over a state: where memory was short the store is the state as before.
pub record Holds {D E : Type 0} (disk : Ghosts D) (files : Files) (s : Statement) (is : Running) (now : D) (result : Result Answer E) (state : State) : Type 0 where
  pub done : IfOk result (λ a. (after : State) × IsAnswer state files s a.text.items a.refusal after × IsState disk is now after)
  pub undone : OnErr result (IsState disk is now state)

-- the answer where memory alone may be short
abbrev pub of_memory : {E : Type 0} → Result Answer E → Result Answer StoreFault
of_memory (Ok a) = Ok a
of_memory (Err e) = Err store.Memory

-- the answer that was made before an event, if that was done
abbrev pub told : {F : Type 0} → (F → StoreFault) → Answer → Result (Unit {0}) F → Result Answer StoreFault
told turn a (Ok u) = Ok a
told turn a (Err f) = Err (turn f)

-- the same answer, its fault as that of a statement text
abbrev pub of_text : Result Answer StoreFault → Result Answer StepFault
of_text (Ok a) = Ok a
of_text (Err f) = Err (of_store f)

-- the answers that were made before the jobs of a statement: for all of them, and for where they stopped
abbrev pub stopped_or : Answer → Answer → Result Bool StoreFault → Result Answer StoreFault
stopped_or moved stopped (Ok b) = Ok (if b then stopped else moved)
stopped_or moved stopped (Err f) = Err f

-- what a moveout came to, whether it moved a projection or not
abbrev pub moved : Result Bool StoreFault → Result (Unit {0}) StoreFault
moved (Ok b) = Ok tt
moved (Err f) = Err f
