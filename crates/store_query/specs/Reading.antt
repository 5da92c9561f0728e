-- What a query reads of a store.
use Rattle.std.specs.Prelude.{◌≡◌, ◌≤◌, ℕ, ◌+◌, min, List, [], ◌∷◌, length, map, IsSomeAnd}
use Rattle.std.specs.List.{slice_get}
use Rattle.std.specs.Option.{option_map_or}
use Rattle.common_laws.specs.Maps.{Contents}
use Rattle.col_disk.specs.declared.disk.Disk.{Ghosts}
use Rattle.col_value.specs.declared.value.Value.{Value}
use Rattle.row_history.specs.History.{visible}
use Rattle.catalog_types.specs.declared.catalogue.Table as kept
use Rattle.sql_tree.specs.declared.query.At.{At}
use Rattle.sql_bound.specs.declared.query.FromItem.{FromItem}
use Rattle.sql_bound.specs.declared.query.BoundQuery.{BoundQuery}
use Rattle.db_model.specs.Database.{Database, Table}
use Rattle.db_model.specs.State.{Changes, pending_rows, session_view}
use Rattle.db_model.specs.Sound.{IsSoundDatabase, IsSoundSession}
use Rattle.folder_model.specs.Tables.{AreDatabase}
use Rattle.store_commit.specs.Seen.{Seen, Stands}
use Rattle.query_cover.specs.Enough.{AreEnough}
use Rattle.query_cover.specs.Seen.{AreSeen}

-- The rows of a table that a query reads: what the session with these changes sees, or what was committed up to an epoch.
abbrev pub rows_of : At → Database → List Changes → Table → List (List Value)
rows_of At.View d changes t = session_view d.last changes t
rows_of At.Latest d changes t = visible d.last t.rows
rows_of (At.Epoch n) d changes t = visible n t.rows

-- those of a FROM item's table
abbrev pub item_rows : At → Database → List Changes → FromItem → List (List Value)
item_rows at d changes f = option_map_or (rows_of at d changes) (slice_get d.tables f.table) []

-- those of each FROM item
abbrev pub source_rows : At → Database → List Changes → BoundQuery → List (List (List Value))
source_rows at d changes q = map (item_rows at d changes) q.sources

-- a FROM item has the columns of the table at its place
abbrev pub IsOver : List Table → FromItem → Type 0
IsOver tables f = IsSomeAnd (slice_get tables f.table) (λ t. f.columns ≡ length t.columns)

-- so has each FROM item, and their columns stand one behind the other
abbrev pub AreOver : ℕ → List Table → List FromItem → Type 0
AreOver first tables [] = Unit {0}
AreOver first tables (f ∷ fs) = (f.first ≡ first) × IsOver tables f × AreOver (first + f.columns) tables fs

-- an epoch that is asked for is closed, and not before the ancient history mark
abbrev pub IsKeptEpoch : Database → At → Type 0
IsKeptEpoch d At.View = Unit {0}
IsKeptEpoch d At.Latest = Unit {0}
IsKeptEpoch d (At.Epoch n) = (d.ahm ≤ n) × (n ≤ d.last)

-- The store stands over the disk for a database; the query is over its tables, and what it asks for is kept; and the session's changes are
-- sound.
pub record CanRead {D : Type 0} (disk : Ghosts D) (s : Seen) (now : D) (changes : List Changes) (at : At) (q : BoundQuery) (d : Database) : Type 0 where
  pub stands : Stands disk s now d
  pub over : AreOver 0 d.tables q.sources
  pub epoch : IsKeptEpoch d at
  pub session : IsSoundSession d changes

-- the same of the files of a disk, whatever the query
pub record IsRead (m : Contents) (s : Seen) (changes : List Changes) (at : At) (d : Database) : Type 0 where
  pub are : AreDatabase m s.catalogue s.stores d
  pub sound : IsSoundDatabase d
  pub epoch : IsKeptEpoch d at
  pub session : IsSoundSession d changes

-- the epoch up to which rows are read: for one that isn't closed the newest
abbrev pub epoch_of : At → ℕ → ℕ
epoch_of At.View last = last
epoch_of At.Latest last = last
epoch_of (At.Epoch n) last = min n last

-- the pending rows of a FROM item's table, in the session's view
abbrev pub pending_of : At → List kept.Table → List Changes → FromItem → List (List Value)
pending_of At.View tables changes f = option_map_or (λ t. pending_rows t.name changes) (slice_get tables f.table) []
pending_of At.Latest tables changes f = []
pending_of (At.Epoch n) tables changes f = []

-- for the query these rows are those of a FROM item over its table, but for some on which no tuple is kept
abbrev pub Suffice : At → List Changes → BoundQuery → Database → FromItem → List (List Value) → Type 0
Suffice at changes q d f some = IsOver d.tables f → (rows : List (List Value)) × AreSeen q f.first f.columns rows (item_rows at d changes f) × AreEnough q f.first f.columns some rows
