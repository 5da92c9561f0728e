-- The jobs of MERGEOUT, PURGE_TABLE and REFRESH, one after the other over a running store.
use Rattle.std.specs.Prelude.{ℕ, not, Bool, false, List, Option, Result, IfOk, IfErr, IsErrOf, IsSomeAnd, option_and_then, position}
use Rattle.std.specs.List.{slice_get}
use Rattle.common_laws.specs.Maps.{Contents}
use Rattle.col_disk.specs.Faults.{IsUnblamed}
use Rattle.col_disk.specs.Moved.{Leaves}
use Rattle.col_disk.specs.declared.disk.Disk.{Ghosts}
use Rattle.col_disk.specs.declared.disk.StoreFault.{StoreFault}
use Rattle.col_disk.specs.declared.disk.StoreFault.TheVariants.{Memory}
use Rattle.catalog_types.specs.declared.catalogue.Table as kept
use Rattle.db_model.specs.Database.{Shape}
use Rattle.db_model.specs.Epochs.{last_good}
use Rattle.db_model.specs.Events.{is_of_table}
use Rattle.db_model.specs.Mover.{given_up, refreshed, stale_of, Jobs, RaisesOne, RaisesAll, RefreshesFirst, RefreshesAll}
use Rattle.db_model.specs.Numbers.{IsDrawn}
use Rattle.db_model.specs.State.{State}
use Rattle.sound_laws.specs.Moves.{reached_at}
use Rattle.table_jobs.specs.Jobs.{IsRiseAt}
use Rattle.table_jobs.specs.Purged.{IsKeptWholeAt}
use Rattle.table_store.specs.Moving.{IsFreshAt}
use Rattle.store_core.specs.Cuts.{ReopensFrom}
use Rattle.store_core.specs.Running.{Running, IsState}

-- the projection at a place of the table at a place, which is up to date, is on disk up to some later epoch then, or up to the same one
pub record RisesAt (i j : ℕ) (old new : State) : Type 0 where
  pub epoch : ℕ
  pub rises : IsRiseAt epoch i j old.database
  pub drawn : IsDrawn old (record old { database = reached_at epoch i j old.database }) new

-- the projection at a place of the table at a place is up to date then, and all its data is on disk; it waits for the mover no more
abbrev pub RefreshesAt : ℕ → ℕ → State → State → Type 0
RefreshesAt i j old new = IsSomeAnd (slice_get old.database.tables i) (λ t. IsSomeAnd (slice_get t.shapes j) (λ s. IsDrawn old (refreshed s.name old) new))

-- the first projection of a table that isn't up to date is refreshed
abbrev pub RefreshesOne : List ℕ → State → State → Type 0
RefreshesOne table old new = RefreshesFirst (stale_of table old.database) old new

-- the place of the first projection of the table at a place that isn't up to date
abbrev pub stale_place : ℕ → List kept.Table → Option ℕ
stale_place i tables = option_and_then (λ t. position (λ p. not p.fresh) t.projections) (slice_get tables i)

-- a projection is one of a table
abbrev pub is_of : List ℕ → State → Shape → Bool
is_of table state s = is_of_table table state.database.tables s.name

-- some jobs were done, and none of them stopped
abbrev pub AreDone : (State → State → Type 0) → State → State → Type 0
AreDone Job old new = (jobs : ℕ) × Jobs Job jobs (given_up old) false new

-- What a statement of several jobs makes of a store over a state; it says whether it stopped where the numbers were spent. Where memory was
-- short, some of its jobs may have been done. Whatever a crash leaves at any moment is one of these.
pub record JobsOf {D : Type 0} (disk : Ghosts D) (Job : State → State → Type 0) (All : Bool → State → Type 0) (Leave : Contents → Type 0) (is : Running) (old new : D) (result : Result Bool StoreFault) (state : State) : Type 0 where
  pub done : IfOk result (λ stopped. (after : State) × All stopped after × IsState disk is new after)
  pub undone : IsErrOf result Memory → (after : State) × AreDone Job state after × IsState disk is new after
  pub unblamed : IfErr result IsUnblamed
  pub any_moment : Leaves disk Leave old new

-- No row changes, nor does a cut of the tables: whatever a crash leaves reopens to the tables as they were, cut at a closed epoch that is no
-- earlier than the last good one before.
abbrev pub RaisesAllOf : {D : Type 0} → Ghosts D → (Shape → Bool) → Running → D → D → Result Bool StoreFault → State → Type 0
RaisesAllOf disk meant is old new result state = JobsOf disk (RaisesOne meant) (RaisesAll meant state) (ReopensFrom (last_good state.database) state) is old new result state

-- Whatever a crash leaves reopens to the tables with some of the projections refreshed, cut at such an epoch.
abbrev pub RefreshesAllOf : {D : Type 0} → Ghosts D → List ℕ → Running → D → D → Result Bool StoreFault → State → Type 0
RefreshesAllOf disk table is old new result state =
    JobsOf disk (RefreshesOne table) (RefreshesAll table state) (λ x. (after : State) × AreDone (RefreshesOne table) state after × ReopensFrom (last_good state.database) after x) is old new result state

-- no up-to-date projection of the table at a place has a row that was deleted at or before the ancient history mark
abbrev pub ArePurged : ℕ → Running → Type 0
ArePurged i r = (j : ℕ) → IsFreshAt r.seen.stores i j → IsKeptWholeAt r.seen.catalogue.ahm i j r.seen.stores
