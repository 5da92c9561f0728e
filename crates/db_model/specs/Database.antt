-- The logical database: plain tables whose rows carry the epochs of the commits that inserted and deleted them.
use Rattle.std.specs.Prelude.{ℕ, ◌==◌, ◌&&◌, ◌||◌, ◌++◌, nat_lt, if◌then◌else◌, Bool, List, [], ◌∷◌, map, find, Option, bytes_eq, codes}
use Rattle.std.specs.Ordering.{is_lt, nat_cmp}
use Rattle.std.specs.Cmp.Lexicographic.{slice_cmp}
use Rattle.std.specs.List.{list_all, list_any, enumerate_from}
use Rattle.col_value.specs.declared.kinds.Encoding.{Encoding}
use Rattle.col_value.specs.declared.row.Stamped.{Stamped}
use Rattle.col_value.specs.declared.column.Column.{Column}

-- A projection without its rows: the table's columns that it has, each with its encoding, and the places among these by which
-- it is sorted. A fresh one is up to date, and has all its data on disk up to `lge`.
pub record Shape : Type 0 where
  pub name : List ℕ
  pub columns : List (ℕ × Encoding)
  pub sort : List ℕ
  pub fresh : Bool
  pub lge : ℕ

-- a table: its rows are a bag
pub record Table : Type 0 where
  pub name : List ℕ
  pub columns : List Column
  pub rows : List Stamped
  pub shapes : List Shape

-- All tables, in ascending order of their names; the newest closed epoch; and the ancient history mark.
pub record Database : Type 0 where
  pub tables : List Table
  pub last : ℕ
  pub ahm : ℕ

-- no tables, and no epoch closed
abbrev pub empty_database : Database
empty_database = record { tables = []; last = 0; ahm = 0 }

-- a table takes its place by name: before the first table of a greater name
abbrev pub put_table : Table → List Table → List Table
put_table t [] = t ∷ []
put_table t (u ∷ us) = if is_lt (slice_cmp nat_cmp t.name u.name) then t ∷ (u ∷ us) else u ∷ put_table t us

-- the table of a name
abbrev pub table_named : List ℕ → List Table → Option Table
table_named name tables = find (λ t. bytes_eq t.name name) tables

-- a table or a projection is called so
abbrev pub is_taken : List ℕ → List Table → Bool
is_taken name tables = list_any (λ t. bytes_eq t.name name || list_any (λ s. bytes_eq s.name name) t.shapes) tables

-- what the projection of all columns, which CREATE TABLE makes, is called
abbrev pub super_name : List ℕ → List ℕ
super_name name = name ++ codes "_super"

-- the places of a table's columns
abbrev pub ordinals : Table → List ℕ
ordinals t = map (λ e. e.0) (enumerate_from 0 t.columns)

-- a projection has these columns of its table
abbrev pub has_columns : Shape → List ℕ → Bool
has_columns s used = list_all (λ i. list_any (λ c. c.0 == i) s.columns) used

-- a super projection has all columns of its table; this one is up to date, too
abbrev pub is_super : Table → Shape → Bool
is_super t s = s.fresh && has_columns s (ordinals t)

-- an up-to-date projection whose data isn't all on disk
abbrev pub is_behind : ℕ → Shape → Bool
is_behind last s = s.fresh && nat_lt s.lge last
