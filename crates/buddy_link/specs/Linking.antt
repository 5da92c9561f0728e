-- What the steps of a catch-up find and leave.
use Rattle.std.specs.Prelude.{ℕ, ◌≡◌, ◌≤◌, ◌⊎◌, max, Bool, true, false, List, IsSomeAnd, Result, IfOk, IfErr, IsErrOf, OnOk}
use Rattle.std.specs.List.{slice_get}
use Rattle.common_laws.specs.Bags.{SameBag}
use Rattle.common_laws.specs.Maps.{Contents}
use Rattle.col_disk.specs.Moved.{Leaves}
use Rattle.col_disk.specs.declared.disk.Disk.{Ghosts}
use Rattle.col_value.specs.declared.row.Stamped.{Stamped}
use Rattle.row_history.specs.History.{cut_rows, retained}
use Rattle.db_model.specs.Database.{Database}
use Rattle.db_model.specs.Epochs.{cut, last_good}
use Rattle.db_model.specs.Mover.{MovesAll}
use Rattle.db_model.specs.Sound.{IsSoundDatabase}
use Rattle.db_model.specs.State.{State, idle_sessions}
use Rattle.folder_model.specs.Reopening.{Reopens}
use Rattle.store_core.specs.Cuts.{IsKeptButJob}
use Rattle.store_core.specs.Moving.{ReopensMoved}
use Rattle.store_core.specs.Events.{ReopensTo}
use Rattle.store_core.specs.Running.{Running, IsState}
use Rattle.catch_model.specs.Caught.{later_mark, HaveSameHistory, HaveSameTables, IsCaughtUp}
use Rattle.catch_model.specs.Refused.{IsAccepted, IsRefused}
use Rattle.catch_model.specs.declared.fault.LinkFault.{LinkFault}
use Rattle.catch_model.specs.declared.fault.LinkFault.TheVariants.{SchemaDiffers, NotBehind, HistoryGone, Differs, Gap, TooMany, NumbersSpent, BehindDisk, AheadDisk, Damaged, Memory}
use Rattle.catch_files.specs.Parting.{IsShort}
use Rattle.catch_tables.specs.Told.{History, AreToldBy, IsLeastIn, IsToldBy}

-- ---- faults

-- the store behind can't be brought from an epoch on up to the one ahead, or it was not to be found out
abbrev pub Ends : Database → Database → ℕ → LinkFault → Type 0
Ends a b epoch fault = IsRefused a b epoch fault ⊎ IsShort fault

-- ---- histories

-- the later mark of two stores
abbrev pub mark_between : Running → Running → ℕ
mark_between behind ahead = max behind.seen.catalogue.ahm ahead.seen.catalogue.ahm

-- the table at a place tells in both the same from a mark on, up to an epoch
abbrev pub SameAt : ℕ → ℕ → ℕ → Database → Database → Type 0
SameAt mark epoch place a b = IsSomeAnd (slice_get a.tables place) (λ t. IsSomeAnd (slice_get b.tables place) (λ u. SameBag (retained mark t.rows) (retained mark (cut_rows epoch u.rows))))

-- in the table of this name, at a place, a row is the least in which the two differ
abbrev pub DifferAt : ℕ → ℕ → ℕ → List ℕ → Stamped → Database → Database → Type 0
DifferAt mark epoch place table row a b =
    IsSomeAnd (slice_get a.tables place) (λ t. IsSomeAnd (slice_get b.tables place) (λ u. (table ≡ u.name) × IsLeastIn (retained mark t.rows) (retained mark (cut_rows epoch u.rows)) row))

-- this is what the table at a place tells ahead, and the same as behind up to an epoch
pub record IsToldAt (mark epoch place : ℕ) (h : History) (a b : Database) : Type 0 where
  pub told : IsSomeAnd (slice_get b.tables place) (IsToldBy mark epoch h)
  pub same : SameAt mark epoch place a b

-- why it isn't
abbrev pub EndsAt : ℕ → ℕ → ℕ → Database → Database → LinkFault → Type 0
EndsAt mark epoch place a b (SchemaDiffers name) = ⊥
EndsAt mark epoch place a b (NotBehind behind ahead) = ⊥
EndsAt mark epoch place a b (HistoryGone at ahm) = ⊥
EndsAt mark epoch place a b (Differs table row) = DifferAt mark epoch place table row a b
EndsAt mark epoch place a b (Gap n) = ⊥
EndsAt mark epoch place a b (TooMany n) = ⊥
EndsAt mark epoch place a b NumbersSpent = ⊥
EndsAt mark epoch place a b BehindDisk = Unit {0}
EndsAt mark epoch place a b AheadDisk = Unit {0}
EndsAt mark epoch place a b (Damaged name) = ⊥
EndsAt mark epoch place a b Memory = Unit {0}

-- what the tables tell ahead, where nothing is in the way
pub record IsChecked (epoch : ℕ) (tables : List History) (a b : Database) : Type 0 where
  pub accepted : IsAccepted a b epoch
  pub told : AreToldBy (later_mark a b) epoch tables b

-- ---- replaying

-- Tables tell what the database ahead did after an epoch, which is the newest of the state behind and all on disk, up to another; nothing is in
-- the way of that, and no session of the state behind has changes.
pub record MayReplay (mark after last : ℕ) (tables : List History) (a : State) (b : Database) : Type 0 where
  pub accepted : IsAccepted a.database b after
  pub after_is : after ≡ a.database.last
  pub last_is : last ≡ b.last
  pub mark_is : mark ≡ later_mark a.database b
  pub told : AreToldBy mark after tables b
  pub sound : IsSoundDatabase b
  pub idle : a.sessions ≡ idle_sessions
  pub good : last_good a.database ≡ a.database.last

-- the state behind has caught up, all its data is on disk, and no session has changes
pub record IsReplayed (mark : ℕ) (b : Database) (new : State) : Type 0 where
  pub caught : IsCaughtUp mark new.database b
  pub good : last_good new.database ≡ b.last
  pub idle : new.sessions ≡ idle_sessions

-- the state behind has caught up, but some data isn't on disk
pub record IsUnmoved (mark : ℕ) (a : State) (b : Database) (new : State) : Type 0 where
  pub caught : IsCaughtUp mark new.database b
  pub good : last_good new.database ≡ last_good a.database
  pub idle : new.sessions ≡ idle_sessions

-- the state behind has some epochs of the one ahead, and no session has changes
pub record HasEpochsOf (mark : ℕ) (a : State) (b : Database) (new : State) : Type 0 where
  pub from : a.database.last ≤ new.database.last
  pub upto : new.database.last ≤ b.last
  pub tables : HaveSameTables new.database b
  pub rows : HaveSameHistory mark new.database (cut new.database.last b)
  pub idle : new.sessions ≡ idle_sessions

-- what a fault leaves of the store behind
abbrev pub LeavesBehind : (State → Type 0) → ℕ → State → Database → LinkFault → Type 0
LeavesBehind Here mark a b (SchemaDiffers name) = ⊥
LeavesBehind Here mark a b (NotBehind behind ahead) = ⊥
LeavesBehind Here mark a b (HistoryGone at ahm) = ⊥
LeavesBehind Here mark a b (Differs table row) = ⊥
LeavesBehind Here mark a b (Gap n) = ⊥
LeavesBehind Here mark a b (TooMany n) = ⊥
LeavesBehind Here mark a b NumbersSpent = (new : State) × Here new × IsUnmoved mark a b new
LeavesBehind Here mark a b BehindDisk = Unit {0}
LeavesBehind Here mark a b AheadDisk = ⊥
LeavesBehind Here mark a b (Damaged name) = ⊥
LeavesBehind Here mark a b Memory = (new : State) × Here new × HasEpochsOf mark a b new

-- a folder reopens to the database behind, cut at the epoch from which the call started, or to one that has caught up
abbrev pub ReopensBehindOrCaught : ℕ → State → Database → Contents → Type 0
ReopensBehindOrCaught mark a b x = Reopens x (cut a.database.last a.database) ⊎ ((new : State) × IsCaughtUp mark new.database b × Reopens x (cut b.last new.database))

-- What a replay makes of the store behind. Its mark stays.
pub record Replays {D : Type 0} (disk : Ghosts D) (mark last : ℕ) (is : Running) (now : D) (result : Result ℕ LinkFault) (a : State) (b : Database) : Type 0 where
  pub done : IfOk result (λ n. (n ≡ last) × (new : State) × IsState disk is now new × IsReplayed mark b new × (new.database.ahm ≡ a.database.ahm))
  pub left : IfErr result (LeavesBehind (IsState disk is now) mark a b)

-- all is moved out, or the numbers are spent; or memory was short
abbrev pub MovesOrStops : Bool → LinkFault → Type 0
MovesOrStops stopped (SchemaDiffers name) = ⊥
MovesOrStops stopped (NotBehind behind ahead) = ⊥
MovesOrStops stopped (HistoryGone at ahm) = ⊥
MovesOrStops stopped (Differs table row) = ⊥
MovesOrStops stopped (Gap n) = ⊥
MovesOrStops stopped (TooMany n) = ⊥
MovesOrStops stopped NumbersSpent = stopped ≡ true
MovesOrStops stopped BehindDisk = Unit {0}
MovesOrStops stopped AheadDisk = ⊥
MovesOrStops stopped (Damaged name) = ⊥
MovesOrStops stopped Memory = Unit {0}

-- the conditions of `current`: the state behind is at the epoch up to which it was brought, all on disk, and no session has changes
pub record MayGoOn (f : ℕ) (a : State) : Type 0 where
  pub last : a.database.last ≡ f
  pub idle : a.sessions ≡ idle_sessions
  pub good : last_good a.database ≡ a.database.last

-- What `current` makes of the store behind. Its mark stays.
pub record GoesOn {D : Type 0} (disk : Ghosts D) (f : ℕ) (is : Running) (now : D) (result : Result ℕ LinkFault) (a : State) (b : Database) : Type 0 where
  pub done : IfOk result (λ n. (n ≡ b.last) × IsAccepted a.database b f × (new : State) × IsState disk is now new × IsReplayed (later_mark a.database b) b new × (new.database.ahm ≡ a.database.ahm))
  pub left : IfErr result (λ fault. (Ends a.database b f fault × IsState disk is now a) ⊎ LeavesBehind (IsState disk is now) (later_mark a.database b) a b fault)

-- What a moveout of all makes of a store over a state.
pub record MovesBehind {D T : Type 0} (disk : Ghosts D) (is : Running) (old new : D) (result : Result T LinkFault) (s : State) : Type 0 where
  pub done : OnOk result ((after : State) × MovesAll s false after × IsState disk is new after)
  pub spent : IsErrOf result NumbersSpent → (after : State) × MovesAll s true after × IsState disk is new after
  pub short : IsErrOf result Memory → (after : State) × IsKeptButJob s after × IsState disk is new after
  pub fault : IfErr result (MovesOrStops true)
  pub any_moment : Leaves disk (ReopensMoved s) old new
