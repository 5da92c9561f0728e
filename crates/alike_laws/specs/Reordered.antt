-- A database whose tables hold their rows in another order.
use Rattle.std.specs.Prelude.{◌≡◌, List}
use Rattle.std.specs.List.{AllZip}
use Rattle.common_laws.specs.Bags.{SameBag}
use Rattle.db_model.specs.Database.{Database, Table}
use Rattle.db_model.specs.State.{Changes}
use Rattle.db_model.specs.Alike.{AreAlikeChanges}

-- the same changes of each session, in any order of the rows
abbrev pub AreAlikeSessions : List (List Changes) → List (List Changes) → Type 0
AreAlikeSessions sessions others = AllZip (AllZip AreAlikeChanges) sessions others

-- two tables that are the same but for the order of their rows
pub record IsReorderedTable (t u : Table) : Type 0 where
  pub name : t.name ≡ u.name
  pub columns : t.columns ≡ u.columns
  pub shapes : t.shapes ≡ u.shapes
  pub rows : SameBag t.rows u.rows

pub record IsReordered (d e : Database) : Type 0 where
  pub last : d.last ≡ e.last
  pub ahm : d.ahm ≡ e.ahm
  pub tables : AllZip IsReorderedTable d.tables e.tables
