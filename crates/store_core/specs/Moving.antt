-- A moveout of all projections that are behind, over a running store.
use Rattle.std.specs.Prelude.{ℕ, ◌≡◌, ◌⊎◌, Bool, true, false, Result, IfOk, IfErr, IsErrOf, IsSomeAnd}
use Rattle.std.specs.List.{slice_get}
use Rattle.common_laws.specs.Maps.{Contents}
use Rattle.col_disk.specs.Moved.{Leaves}
use Rattle.col_disk.specs.declared.disk.Disk.{Ghosts}
use Rattle.col_disk.specs.declared.disk.StoreFault.{StoreFault}
use Rattle.col_disk.specs.declared.disk.StoreFault.TheVariants.{Memory}
use Rattle.catalog_types.specs.declared.catalogue.Catalogue.{Catalogue}
use Rattle.db_model.specs.Database.{is_behind}
use Rattle.db_model.specs.State.{State}
use Rattle.db_model.specs.Epochs.{last_good}
use Rattle.db_model.specs.Mover.{MovesAll}
use Rattle.folder_model.specs.Projections.{shape_of}
use Rattle.table_store.specs.Drawing.{DrawsEntry}
use Rattle.col_disk.specs.Faults.{IsUnblamed}
use Rattle.store_core.specs.Cuts.{ReopensFrom, IsKeptButJob}
use Rattle.store_core.specs.Events.{ReopensTo}
use Rattle.store_core.specs.Running.{Running, IsState}

-- In a catalogue one projection that was behind was moved out.
pub record MovedBehind (old new : Catalogue) : Type 0 where
  pub table : ℕ
  pub place : ℕ
  pub draws : IsSomeAnd (slice_get old.tables table) (λ t. IsSomeAnd (slice_get t.projections place) (λ p. (is_behind old.last (shape_of p) ≡ true) × DrawsEntry table place old new p))

-- a state as it was, or behind a moveout of all
abbrev pub IsKeptOrMoved : State → State → Type 0
IsKeptOrMoved old new = IsKeptButJob old new ⊎ MovesAll old false new

-- a folder reopens to the database of such a state, cut at its last good epoch
abbrev pub ReopensMoved : State → Contents → Type 0
ReopensMoved state x = (mid : State) × IsKeptOrMoved state mid × ReopensTo mid x

-- A moveout of all over a state; it says whether it stopped where the numbers were spent. Where memory was short nothing changed but the mover's
-- job. No row changes in a moveout: whatever a crash leaves at any moment reopens to the tables before it, cut at a closed epoch that is no
-- earlier than the last good one before it; and to which one, the state says: the one before, or the one behind all moveouts.
pub record MovesAllOf {D : Type 0} (disk : Ghosts D) (is : Running) (old new : D) (result : Result Bool StoreFault) (state : State) : Type 0 where
  pub done : IfOk result (λ stopped. (after : State) × MovesAll state stopped after × IsState disk is new after)
  pub undone : IsErrOf result Memory → (after : State) × IsKeptButJob state after × IsState disk is new after
  pub unblamed : IfErr result IsUnblamed
  pub any_moment : Leaves disk (ReopensFrom (last_good state.database) state) old new
  pub by_moves : Leaves disk (ReopensMoved state) old new
