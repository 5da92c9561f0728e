-- What a database and its sessions always are.
use Rattle.std.specs.Prelude.{ℕ, ◌≡◌, ◌≤◌, ◌<◌, ◌||◌, true, false, List, [], ◌∷◌, length, map, Contains, Some, bytes_eq}
use Rattle.std.specs.Bool.{OnTrue}
use Rattle.std.specs.List.{All, AllPairs, AllZip, flat_map, list_any}
use Rattle.std.specs.Option.{IfSome}
use Rattle.col_value.specs.declared.value.Value.{Value}
use Rattle.col_value.specs.declared.value.Value.TheVariants as value
use Rattle.col_value.specs.declared.kinds.ColType.{ColType}
use Rattle.col_value.specs.declared.column.Column.{Column}
use Rattle.col_value.specs.declared.row.Stamped.{Stamped}
use Rattle.col_value.specs.Order.{IsRow}
use Rattle.row_history.specs.History.{Within}
use Rattle.db_model.specs.Database.{Shape, Table, Database, table_named, is_super}
use Rattle.db_model.specs.State.{State, Changes}

-- a text fits a column of texts that takes as many octets
abbrev pub TextFits : ColType → List ℕ → Type 0
TextFits ColType.Integer text = ⊥
TextFits (ColType.Varchar n) text = length text ≤ n
TextFits ColType.Boolean text = ⊥
TextFits ColType.Date text = ⊥

-- a value fits a column: it is of the column's kind, or NULL where the column allows it
abbrev pub ValueFits : Column → Value → Type 0
ValueFits c value.Null = c.not_null ≡ false
ValueFits c (value.Bool b) = c.kind ≡ ColType.Boolean
ValueFits c (value.Int n) = c.kind ≡ ColType.Integer
ValueFits c (value.Date d) = c.kind ≡ ColType.Date
ValueFits c (value.Text t) = TextFits c.kind t

-- a row fits columns: its values are values of a table, one for each column, and each fits its column
pub record RowFits (columns : List Column) (row : List Value) : Type 0 where
  pub values : IsRow row
  pub each : AllZip ValueFits columns row

-- a row was inserted at a closed epoch and, once deleted, deleted at a later closed one
pub record HasEpochs (last : ℕ) (s : Stamped) : Type 0 where
  pub first : 1 ≤ s.ins
  pub inserted : s.ins ≤ last
  pub deleted : IfSome s.del (λ d. (s.ins < d) × (d ≤ last))

-- what an up-to-date projection has on disk reaches the ancient history mark, and no epoch that isn't closed
pub record ReachesMark (d : Database) (s : Shape) : Type 0 where
  pub mark : d.ahm ≤ s.lge
  pub closed : s.lge ≤ d.last

abbrev pub IsSoundShape : Database → Shape → Type 0
IsSoundShape d s = OnTrue s.fresh (ReachesMark d s)

-- a table's rows fit its columns and have epochs, and one of its projections is up to date and has all its columns
pub record IsSoundTable (d : Database) (t : Table) : Type 0 where
  pub rows : All (λ s. RowFits t.columns s.row) t.rows
  pub epochs : All (HasEpochs d.last) t.rows
  pub shapes : All (IsSoundShape d) t.shapes
  pub super : list_any (is_super t) t.shapes ≡ true

-- tables and projections share one set of names
abbrev pub names_of : Table → List (List ℕ)
names_of t = t.name ∷ map (λ s. s.name) t.shapes

abbrev pub all_names : List Table → List (List ℕ)
all_names tables = flat_map names_of tables

pub record IsSoundDatabase (d : Database) : Type 0 where
  pub names : AllPairs (λ m n. bytes_eq m n ≡ false) (all_names d.tables)
  pub tables : All (IsSoundTable d) d.tables
  pub mark : d.ahm ≤ d.last

-- changes in a table that is there: its pending rows fit, and its pending deletes lie within the undeleted rows; only a session that
-- holds the table in mode X has such
pub record ChangesFit (d : Database) (c : Changes) : Type 0 where
  pub table : Table
  pub there : table_named c.table d.tables ≡ Some table
  pub rows : All (RowFits table.columns) c.rows
  pub deletes : Within c.deletes table.rows
  pub shared : c.exclusive ≡ false → c.deletes ≡ []

-- the changes of a session, no two of one table
pub record IsSoundSession (d : Database) (changes : List Changes) : Type 0 where
  pub each : All (ChangesFit d) changes
  pub once : AllPairs (λ c e. bytes_eq c.table e.table ≡ false) changes

-- what two sessions hold goes together: on a table that both hold, neither holds mode X
abbrev pub GoTogether : List Changes → List Changes → Type 0
GoTogether one other = (c e : Changes) → Contains one c → Contains other e → c.table ≡ e.table → (c.exclusive || e.exclusive) ≡ false

-- a projection that isn't up to date has this name
pub record IsStale (d : Database) (name : List ℕ) : Type 0 where
  pub table : Table
  pub shape : Shape
  pub there : Contains d.tables table
  pub of : Contains table.shapes shape
  pub named : shape.name ≡ name
  pub stale : shape.fresh ≡ false

pub record IsSound (state : State) : Type 0 where
  pub database : IsSoundDatabase state.database
  pub eight : length state.sessions ≡ 8
  pub first : 1 ≤ state.current
  pub current : state.current ≤ 8
  pub sessions : All (IsSoundSession state.database) state.sessions
  pub apart : AllPairs GoTogether state.sessions
  pub asked : All (IsStale state.database) state.asked
