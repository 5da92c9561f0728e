-- What a piece of work makes of a store and its disk.
use Rattle.std.specs.Prelude.{ℕ, ◌≡◌, ◌⊎◌, List, Result, OnOk, IsErrOf}
use Rattle.common_laws.specs.Maps.{Contents}
use Rattle.col_disk.specs.Moved.{Leaves}
use Rattle.col_disk.specs.declared.disk.Disk.{Ghosts}
use Rattle.catalog_types.specs.declared.catalogue.Catalogue.{Catalogue}
use Rattle.db_model.specs.Database.{Database}
use Rattle.db_model.specs.Epochs.{last_good, cut}
use Rattle.folder_model.specs.Reopening.{Reopens}
use Rattle.store_commit.specs.Seen.{Seen, Stands}

-- what a crash left reopens to one of two databases, cut at its last good epoch
abbrev pub ReopensToEither : Database → Database → Contents → Type 0
ReopensToEither d e x = Reopens x (cut (last_good d) d) ⊎ Reopens x (cut (last_good e) e)

-- A piece of work makes the database `e` of `d`. Then the store stands for `e`; where memory was short it stands for `d` as before; and
-- whatever a crash left since it began reopens to one of the two.
pub record Makes {D F : Type 0} (disk : Ghosts D) (short : F) (was is : Seen) (old new : D) (result : Result (Unit {0}) F) (d e : Database) : Type 0 where
  pub done : OnOk result (Stands disk is new e)
  pub undone : IsErrOf result short → Stands disk was new d
  pub any_moment : Leaves disk (ReopensToEither d e) old new
