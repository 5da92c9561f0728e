-- The steps of the mover over a running store.
use Rattle.std.specs.Prelude.{ℕ, ◌≡◌, ◌≤◌, ◌+◌, ◌⊎◌, Bool, false, List, [], Option, None, Some, Result, Contains, IfErr, OnOk, IsErrOf, IsSomeAnd, is_some, length, map, filter, not}
use Rattle.std.specs.List.{All, flat_map}
use Rattle.std.specs.Cmp.Lexicographic.{slice_cmp}
use Rattle.std.specs.Ordering.{is_lt, nat_cmp}
use Rattle.col_disk.specs.Faults.{IsUnblamed}
use Rattle.col_disk.specs.Moved.{Either, Leaves, Moved, Named, NoName}
use Rattle.col_disk.specs.declared.disk.Disk.{Ghosts}
use Rattle.col_disk.specs.declared.disk.StoreFault.{StoreFault}
use Rattle.col_disk.specs.declared.disk.StoreFault.TheVariants.{Memory}
use Rattle.catalog_types.specs.declared.catalogue.Catalogue.{Catalogue}
use Rattle.catalog_types.specs.declared.catalogue.Projection.{Projection}
use Rattle.catalog_types.specs.declared.catalogue.Table as kept
use Rattle.ros_container.specs.Files.{body_of, index_of}
use Rattle.db_model.specs.Events.{is_not_named}
use Rattle.db_model.specs.Mover.{given_up, Installs, MoverSteps}
use Rattle.db_model.specs.Numbers.{IsDrawn}
use Rattle.db_model.specs.State.{State}
use Rattle.mover_policy.specs.First.{all_projections, behind_in, first_in, projection_at}
use Rattle.mover_policy.specs.Merging.{IsDue, IsNext}
use Rattle.mover_policy.specs.declared.first.Place.{Place}
use Rattle.mover_policy.specs.declared.merging.Merge.{Merge}
use Rattle.table_jobs.specs.Jobs.{DrawsAnew, DrawsMerged, HasReached, OfProjection}
use Rattle.store_core.specs.Events.{BeforeOrAfter, ReopensTo}
use Rattle.store_core.specs.Running.{job_dropped, mover_of, IsState, Mover, Running}

-- the names of those projections that aren't up to date
abbrev pub stale_in : List Projection → List (List ℕ)
stale_in projections = map (λ p. p.name) (filter (λ p. not p.fresh) projections)

-- and of those of all tables, one table after the other
abbrev pub all_stale : List kept.Table → List (List ℕ)
all_stale tables = flat_map (λ t. stale_in t.projections) tables

-- a projection isn't up to date and has this name
abbrev pub IsStaleNamed : List ℕ → Projection → Type 0
IsStaleNamed name p = (p.fresh ≡ false) × (p.name ≡ name)

abbrev pub with_mover : Mover → Running → Running
with_mover mover r = record r { mover = mover }

-- these projections wait for the mover
abbrev pub with_asked : List (List ℕ) → Running → Running
with_asked asked r = with_mover (mover_of asked r.mover.busy r.mover.refreshing) r

-- a job of 3 to 66 steps begins, or none does where no projection waits
abbrev pub Begins : Running → Running → Type 0
Begins old new =
    ((old.mover.asked ≡ []) × (new ≡ old))
    ⊎ ((steps : ℕ) × (refreshing : Option (List ℕ)) × (3 ≤ steps) × (steps ≤ 66) × (new ≡ with_mover (mover_of old.mover.asked steps refreshing) old))

-- no projection is up to date and has four containers of a level
abbrev pub NoneIsDue : List kept.Table → Type 0
NoneIsDue tables = All (λ p. IsDue p → ⊥) (all_projections tables)

-- a job of the projection at a place begins: behind this step it has one for each column, one for the epochs and the last one
abbrev pub BeginsAt : Place → Option (List ℕ) → Running → Running → Type 0
BeginsAt at refreshing old new =
    IsSomeAnd (projection_at old.seen.catalogue.tables at) (λ p. new ≡ with_mover (mover_of old.mover.asked (length p.columns + 2) refreshing) old)

abbrev pub is_less : List ℕ → List ℕ → Bool
is_less m n = is_lt (slice_cmp nat_cmp m n)

-- the least of some names
pub record IsLeastOf (names : List (List ℕ)) (name : List ℕ) : Type 0 where
  pub among : Contains names name
  pub least : All (λ other. is_less other name ≡ false) names

-- the refresh of a projection that waits begins
pub record BeginsRefresh (old new : Running) : Type 0 where
  pub name : List ℕ
  pub first : IsLeastOf old.mover.asked name
  pub at : Place
  pub stale : IsSomeAnd (projection_at old.seen.catalogue.tables at) (IsStaleNamed name)
  pub begins : BeginsAt at (Some name) old new

-- the merge that comes next begins
pub record BeginsMerge (old new : Running) : Type 0 where
  pub merge : Merge
  pub next : IsNext old.seen.catalogue.tables merge
  pub begins : BeginsAt merge.at None old new

-- Which job begins: the merge that comes next; where none is due, the refresh of the projection of the least name that waits; where none waits,
-- none.
abbrev pub BeginsNext : Running → Running → Type 0
BeginsNext old new =
    BeginsMerge old new ⊎ (NoneIsDue old.seen.catalogue.tables × (((old.mover.asked ≡ []) × (new ≡ old)) ⊎ BeginsRefresh old new))

-- The merge that comes next is made: of all entries that of its projection alone is another one, which has at least two containers less. Where
-- none is due, nothing is made.
abbrev pub MergesNext : Catalogue → Catalogue → Type 0
MergesNext old new =
    ((m : Merge) × IsNext old.tables m × OfProjection m.at.table m.at.place old (DrawsMerged m.at.table m.at.place old new)) ⊎ (NoneIsDue old.tables × (new ≡ old))

-- A projection of a name that waits is refreshed: of all entries its alone is another one, which is up to date and on disk up to the newest epoch.
-- It waits no more.
pub record IsRefreshed (name : List ℕ) (old new : Running) : Type 0 where
  pub at : Place
  pub waits : Contains old.mover.asked name
  pub stale : OfProjection at.table at.place old.seen.catalogue (IsStaleNamed name)
  pub draws : OfProjection at.table at.place old.seen.catalogue (DrawsAnew at.table at.place 2 old.seen.catalogue new.seen.catalogue)
  pub reached : OfProjection at.table at.place new.seen.catalogue (HasReached new.seen.catalogue.last)
  pub asked : new.mover.asked ≡ filter (is_not_named name) old.mover.asked

-- every projection of a name is up to date
abbrev pub NoneIsStale : List ℕ → List kept.Table → Type 0
NoneIsStale name tables = All (λ t. All (λ p. IsStaleNamed name p → ⊥) t.projections) tables

-- no projection of a name waits, or each of that name is up to date
abbrev pub WaitsNot : List ℕ → Running → Type 0
WaitsNot name r = All (λ n. n ≡ name → ⊥) r.mover.asked ⊎ NoneIsStale name r.seen.catalogue.tables

-- the projection of a name is refreshed, if it waits, and else nothing is done
abbrev pub RefreshesNamed : List ℕ → Running → Running → Type 0
RefreshesNamed name old new = IsRefreshed name old new ⊎ (WaitsNot name old × (new ≡ old))

-- and then the job is over
abbrev pub FinishesRefresh : List ℕ → Running → Running → Type 0
FinishesRefresh name old new = (made : Running) × RefreshesNamed name old made × (new ≡ with_mover (job_dropped made.mover) made)

-- some projection is behind
abbrev pub is_behind : Running → Bool
is_behind r = is_some (first_in (behind_in r.seen.catalogue.last (all_projections r.seen.catalogue.tables)))

-- what a job is for
abbrev pub InstallsJob : State → State → Type 0
InstallsJob old new = (made : State) × Installs old made × IsDrawn old made new

-- its last step
abbrev pub FinishesJob : State → State → Type 0
FinishesJob old new = (made : State) × Installs (given_up old) made × IsDrawn old made new

-- at most the files of one column are written, with numbers from the next free one on
abbrev pub WritesOneColumn : {D : Type 0} → Ghosts D → Running → D → D → Type 0
WritesOneColumn disk was old new = (column : ℕ) × Moved disk (Either (Named (body_of was.seen.catalogue.next column)) (Named (index_of was.seen.catalogue.next column))) NoName old new

-- Files of a merge or refresh are written that nothing lists: the store is the state as before, and so is whatever a crash leaves.
pub record WorksOver {D : Type 0} (disk : Ghosts D) (is : Running) (old new : D) (result : Result (Unit {0}) StoreFault) (state : State) : Type 0 where
  pub done : OnOk result (IsState disk is new state)
  pub any_moment : Leaves disk (ReopensTo state) old new

-- A step of the mover over a state. Where memory was short the store is the state as before.
pub record MoverStepsOf {D : Type 0} (disk : Ghosts D) (is : Running) (old new : D) (result : Result (Unit {0}) StoreFault) (state : State) : Type 0 where
  pub done : OnOk result ((after : State) × MoverSteps state after × IsState disk is new after)
  pub undone : IsErrOf result Memory → IsState disk is new state
  pub unblamed : IfErr result IsUnblamed
  pub any_moment : Leaves disk (BeforeOrAfter state (MoverSteps state)) old new
