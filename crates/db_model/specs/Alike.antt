-- Databases that no statement tells apart: they differ in the order of rows, and in rows deleted up to the ancient history mark.
use Rattle.std.specs.Prelude.{ℕ, ◌≡◌}
use Rattle.std.specs.List.{AllZip}
use Rattle.common_laws.specs.Bags.{SameBag}
use Rattle.row_history.specs.History.{retained}
use Rattle.db_model.specs.Database.{Table, Database}
use Rattle.db_model.specs.State.{State, Changes}

-- two tables that are the same but for their rows, and from the mark on retain the same bag of these
pub record IsAlikeTable (mark : ℕ) (t u : Table) : Type 0 where
  pub name : t.name ≡ u.name
  pub columns : t.columns ≡ u.columns
  pub shapes : t.shapes ≡ u.shapes
  pub rows : SameBag (retained mark t.rows) (retained mark u.rows)

pub record IsAlike (d e : Database) : Type 0 where
  pub last : d.last ≡ e.last
  pub ahm : d.ahm ≡ e.ahm
  pub tables : AllZip (IsAlikeTable d.ahm) d.tables e.tables

-- the same changes, in any order of the rows
pub record AreAlikeChanges (c e : Changes) : Type 0 where
  pub table : c.table ≡ e.table
  pub exclusive : c.exclusive ≡ e.exclusive
  pub rows : SameBag c.rows e.rows
  pub deletes : SameBag c.deletes e.deletes

-- states of alike databases, with alike changes in each session; the three numbers of the storage may be others
pub record AreAlikeStates (a b : State) : Type 0 where
  pub database : IsAlike a.database b.database
  pub sessions : AllZip (AllZip AreAlikeChanges) a.sessions b.sessions
  pub current : a.current ≡ b.current
  pub asked : a.asked ≡ b.asked
