-- What an event makes of a running store and its disk.
use Rattle.std.specs.Prelude.{◌≡◌, ◌⊎◌, Bool, true, false, None, Result, IfOk, OnOk, IsErrOf}
use Rattle.common_laws.specs.Maps.{Contents}
use Rattle.col_disk.specs.Moved.{Leaves}
use Rattle.col_disk.specs.declared.disk.Disk.{Ghosts}
use Rattle.db_model.specs.State.{State}
use Rattle.db_model.specs.Epochs.{last_good, cut}
use Rattle.db_model.specs.Mover.{first_behind, MovesFirst}
use Rattle.folder_model.specs.Reopening.{Reopens}
use Rattle.store_core.specs.Running.{unworked, Running, IsState}

-- a folder reopens to the database of a state, cut at its last good epoch
abbrev pub ReopensTo : State → Contents → Type 0
ReopensTo state x = Reopens x (cut (last_good state.database) state.database)

-- whatever a crash leaves reopens to the database before the event, or to one after it
abbrev pub BeforeOrAfter : State → (State → Type 0) → Contents → Type 0
BeforeOrAfter state After x = ReopensTo state x ⊎ ((new : State) × After new × ReopensTo new x)

-- An event over a state makes one of these of it. Where memory was short the store as it was, but for what is written of a job, is the state as
-- before; and whatever a crash leaves at any moment reopens to the one before or to one after.
pub record Does {D R F : Type 0} (disk : Ghosts D) (short : F) (was is : Running) (old new : D) (result : Result R F) (state : State) (After : State → Type 0) : Type 0 where
  pub done : OnOk result ((after : State) × After after × IsState disk is new after)
  pub undone : IsErrOf result short → IsState disk (unworked was) new state
  pub any_moment : Leaves disk (BeforeOrAfter state After) old new

-- the first projection that is behind was moved out; or none is, and nothing changed
abbrev pub MovesIf : Bool → State → State → Type 0
MovesIf true old new = MovesFirst (first_behind old.database) old new
MovesIf false old new = (first_behind old.database ≡ None) × (new ≡ old)

-- the same over a disk, with what a crash leaves
pub record MovesFirstOf {D F : Type 0} (disk : Ghosts D) (short : F) (was is : Running) (old new : D) (result : Result Bool F) (state : State) : Type 0 where
  pub done : IfOk result (λ moved. (after : State) × MovesIf moved state after × IsState disk is new after)
  pub undone : IsErrOf result short → IsState disk (unworked was) new state
  pub any_moment : Leaves disk (BeforeOrAfter state (MovesFirst (first_behind state.database) state)) old new
