-- What a crash leaves of the tables, cut at one epoch.
use Rattle.std.specs.Prelude.{ℕ, ◌≡◌, ◌⊎◌, ◌≤◌}
use Rattle.common_laws.specs.Maps.{Contents}
use Rattle.db_model.specs.State.{State}
use Rattle.db_model.specs.Epochs.{last_good, cut}
use Rattle.db_model.specs.Mover.{given_up}
use Rattle.folder_model.specs.Reopening.{Reopens}

-- a folder reopens to the database of a state, cut at a closed epoch that is no earlier than this one
pub record ReopensFrom (least : ℕ) (state : State) (x : Contents) : Type 0 where
  pub epoch : ℕ
  pub from : least ≤ epoch
  pub closed : epoch ≤ state.database.last
  pub reopens : Reopens x (cut epoch state.database)

-- Whatever a crash leaves reopens to the database before an event, or to one after it, cut at a closed epoch that is no earlier than the last
-- good one before the event.
abbrev pub CutBeforeOrAfter : State → (State → Type 0) → Contents → Type 0
CutBeforeOrAfter state After x =
    ReopensFrom (last_good state.database) state x ⊎ ((new : State) × After new × ReopensFrom (last_good state.database) new x)

-- where memory was short: nothing changed, but that the mover's job may be dropped
abbrev pub IsKeptButJob : State → State → Type 0
IsKeptButJob old new = (new ≡ old) ⊎ (new ≡ given_up old)
