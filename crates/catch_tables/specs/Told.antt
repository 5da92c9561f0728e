-- What a table tells.
use Rattle.std.specs.Prelude.{ℕ, ◌≡◌, ◌≤◌, ◌++◌, List, IfSome}
use Rattle.std.specs.List.{All, AllZip}
use Rattle.common_laws.specs.Bags.{SameBag}
use Rattle.col_value.specs.declared.row.Stamped.{Stamped}
use Rattle.row_history.specs.History.{retained}
use Rattle.bag_difference.specs.Differences.{IsLeastDifference}
use Rattle.db_model.specs.Database.{Database, Table}

-- rows that the table of a name tells, with their epochs
pub record History : Type 0 where
  pub name : List ℕ
  pub rows : List Stamped

abbrev pub history_told : List ℕ → List Stamped → History
history_told name rows = record { name = name; rows = rows }

-- a row that was inserted, and deleted if it is, up to an epoch
abbrev pub IsUpTo : ℕ → Stamped → Type 0
IsUpTo epoch s = (s.ins ≤ epoch) × IfSome s.del (λ d. d ≤ epoch)

-- it is what a table tells from a mark on, but for some rows of which nothing is later than an epoch
pub record IsToldBy (mark epoch : ℕ) (h : History) (t : Table) : Type 0 where
  pub name : h.name ≡ t.name
  pub common : List Stamped
  pub early : All (IsUpTo epoch) common
  pub rows : SameBag (common ++ h.rows) (retained mark t.rows)

-- these are what the tables of a database tell so
abbrev pub AreToldBy : ℕ → ℕ → List History → Database → Type 0
AreToldBy mark epoch tables d = AllZip (IsToldBy mark epoch) tables d.tables

-- a row is the least in which two lists of rows differ
abbrev pub IsLeastIn : List Stamped → List Stamped → Stamped → Type 0
IsLeastIn xs ys row = (first : ℕ) × (second : ℕ) × IsLeastDifference xs ys row first second
