-- When a database has caught up with another.
use Rattle.std.specs.Prelude.{ℕ, ◌≡◌, max, List, [], Option, option_map}
use Rattle.std.specs.Option.{option_map_or}
use Rattle.common_laws.specs.Bags.{SameBag}
use Rattle.col_value.specs.declared.column.Column.{Column}
use Rattle.col_value.specs.declared.row.Stamped.{Stamped}
use Rattle.row_history.specs.History.{retained}
use Rattle.db_model.specs.Database.{Database, table_named}

-- the columns of the table of a name, if it is there
abbrev pub columns_of : List ℕ → Database → Option (List Column)
columns_of name d = option_map (λ t. t.columns) (table_named name d.tables)

-- the rows of the table of a name, with their epochs
abbrev pub rows_of : List ℕ → Database → List Stamped
rows_of name d = option_map_or (λ t. t.rows) (table_named name d.tables) []

-- the same from a mark on
abbrev pub history : ℕ → List ℕ → Database → List Stamped
history mark name d = retained mark (rows_of name d)

-- both have tables of the same names, each with the same columns
abbrev pub HaveSameTables : Database → Database → Type 0
HaveSameTables a b = (name : List ℕ) → columns_of name a ≡ columns_of name b

-- from a mark on both tell the same history of each table
abbrev pub HaveSameHistory : ℕ → Database → Database → Type 0
HaveSameHistory mark a b = (name : List ℕ) → SameBag (history mark name a) (history mark name b)

-- the mark from which on both tell their history
abbrev pub later_mark : Database → Database → ℕ
later_mark a b = max a.ahm b.ahm

-- One has caught up with the other from a mark on: both have the same newest epoch, the same tables, and of each the same history.
pub record IsCaughtUp (mark : ℕ) (a b : Database) : Type 0 where
  pub last : a.last ≡ b.last
  pub tables : HaveSameTables a b
  pub rows : HaveSameHistory mark a b
