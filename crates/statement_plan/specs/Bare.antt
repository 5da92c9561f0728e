-- A state without the rows of its tables.
use Rattle.std.specs.Prelude.{ℕ, ◌≡◌, List, [], map}
use Rattle.std.specs.List.{AllZip}
use Rattle.catalog_types.specs.declared.catalogue.Table as kept
use Rattle.db_model.specs.Database.{Table}
use Rattle.db_model.specs.State.{State, Changes}
use Rattle.folder_model.specs.Projections.{shape_of}
use Rattle.alike_laws.specs.Reordered.{AreAlikeSessions}

-- a table of the catalogue as one that has no rows
abbrev pub bare_table : kept.Table → Table
bare_table t = record { name = t.name; columns = t.columns; rows = []; shapes = map shape_of t.projections }

-- the tables of a catalogue without rows, the newest closed epoch, the ancient history mark and the next number, and what the sessions have
-- changed
abbrev pub bare_state : List kept.Table → ℕ → ℕ → ℕ → List (List Changes) → ℕ → State
bare_state tables last mark next sessions current = record {
  database = record { tables = map bare_table tables; last = last; ahm = mark };
  sessions = sessions;
  current = current;
  asked = [];
  next = next;
  busy = 0;
  parts = 0;
}

-- the table is the other one without its rows
pub record IsBareTable (bare t : Table) : Type 0 where
  pub name : bare.name ≡ t.name
  pub columns : bare.columns ≡ t.columns
  pub shapes : bare.shapes ≡ t.shapes

-- the state is the other one without its rows, and knows what its sessions have changed up to the order of rows
pub record IsBare (bare state : State) : Type 0 where
  pub tables : AllZip IsBareTable bare.database.tables state.database.tables
  pub last : bare.database.last ≡ state.database.last
  pub mark : bare.database.ahm ≡ state.database.ahm
  pub sessions : AreAlikeSessions bare.sessions state.sessions
  pub current : bare.current ≡ state.current
  pub next : bare.next ≡ state.next
