-- A replay, epoch by epoch, over a running store.
use Rattle.std.specs.Prelude.{ℕ, ◌≡◌, ◌≤◌, if◌then◌else◌, List, fold, map, Result, IfErr, IsErrOf, OnOk}
use Rattle.std.specs.List.{AllZip}
use Rattle.common_laws.specs.Maps.{Contents}
use Rattle.col_disk.specs.Moved.{Leaves}
use Rattle.col_disk.specs.declared.disk.Disk.{Ghosts}
use Rattle.db_model.specs.Database.{Database, Table}
use Rattle.db_model.specs.Epochs.{cut, last_good}
use Rattle.db_model.specs.Sound.{IsSoundDatabase}
use Rattle.db_model.specs.State.{State}
use Rattle.folder_model.specs.Reopening.{Reopens}
use Rattle.store_core.specs.Running.{Running, IsState}
use Rattle.store_core.specs.Sessions.{with_marked}
use Rattle.catch_laws.specs.Replay.{IsAt}
use Rattle.catch_model.specs.declared.fault.LinkFault.{LinkFault}
use Rattle.catch_model.specs.declared.fault.LinkFault.TheVariants.{SchemaDiffers, NotBehind, HistoryGone, Differs, Gap, TooMany, NumbersSpent, BehindDisk, AheadDisk, Damaged, Memory}
use Rattle.catch_tables.specs.Keyed.{Changed, delete_of, has_change_in, of_epoch, row_of, AreInserts, AreDeletes}

-- what an epoch changed in a table is pending
abbrev pub pended : ℕ → Changed → Running → Running
pended n c r = if has_change_in n c then with_marked c.name (map row_of (of_epoch n c.inserts)) (map delete_of (of_epoch n c.deletes)) r else r

abbrev pub all_pended : ℕ → List Changed → Running → Running
all_pended n tables r = fold (λ x c. pended n c x) r tables

-- these are what was inserted into a table and deleted from it after an epoch
pub record IsOrderedOf (after : ℕ) (t : Table) (c : Changed) : Type 0 where
  pub name : c.name ≡ t.name
  pub inserts : AreInserts after t.rows c.inserts
  pub deletes : AreDeletes after t.rows c.deletes

-- the disk behind failed, or memory was short
abbrev pub IsShortBehind : LinkFault → Type 0
IsShortBehind (SchemaDiffers name) = ⊥
IsShortBehind (NotBehind behind ahead) = ⊥
IsShortBehind (HistoryGone at ahm) = ⊥
IsShortBehind (Differs table row) = ⊥
IsShortBehind (Gap n) = ⊥
IsShortBehind (TooMany n) = ⊥
IsShortBehind NumbersSpent = ⊥
IsShortBehind BehindDisk = Unit {0}
IsShortBehind AheadDisk = ⊥
IsShortBehind (Damaged name) = ⊥
IsShortBehind Memory = Unit {0}

-- A database ahead, what it did after an epoch, and the database behind from which the replay starts.
pub record Setting (mark after : ℕ) (start b : Database) (tables : List Changed) : Type 0 where
  pub sound : IsSoundDatabase b
  pub ordered : AllZip (IsOrderedOf after) b.tables tables
  pub mark_below : mark ≤ after
  pub good : last_good start ≡ start.last

abbrev pub ReopensBehind : Database → Contents → Type 0
ReopensBehind start x = Reopens x (cut start.last start)

-- What a replay from one epoch to another makes of a store; where memory was short, it is at an epoch between them.
pub record Comes {D T : Type 0} (disk : Ghosts D) (mark : ℕ) (start b : Database) (from upto : ℕ) (is : Running) (old new : D) (result : Result T LinkFault) : Type 0 where
  pub done : OnOk result ((s : State) × IsState disk is new s × IsAt mark start b upto s)
  pub short : IsErrOf result Memory → (k : ℕ) × (from ≤ k) × (k ≤ upto) × (s : State) × IsState disk is new s × IsAt mark start b k s
  pub fault : IfErr result IsShortBehind
  pub any_moment : Leaves disk (ReopensBehind start) old new
