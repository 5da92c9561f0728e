-- What a store stands for over a disk, whatever a crash leaves of it.
use Rattle.std.specs.Prelude.{◌≡◌, ◌<◌, List, [], Option, None}
use Rattle.common_laws.specs.Maps.{Contents}
use Rattle.catalog_types.specs.declared.catalogue.Catalogue.{Catalogue}
use Rattle.catalog_types.specs.Reached.{all_reached}
use Rattle.catalog_root.specs.declared.found.Found.{Found}
use Rattle.catalog_root.specs.declared.found.Found.TheVariants.{Fresh, Root}
use Rattle.catalog_root.specs.Quiet.{Quiet}
use Rattle.db_model.specs.Database.{Database}
use Rattle.db_model.specs.Sound.{IsSoundDatabase}
use Rattle.stored_rows.specs.Stored.{Projected}
use Rattle.folder_model.specs.Tables.{AreDatabase}

-- What the disk opens to has the tables and the ancient history mark of a store's catalogue. Its last epoch may be an earlier one, since
-- a commit of rows writes nothing; but where no projection is up to date it is the same.
abbrev pub IsRootOf : Catalogue → Found → Type 0
IsRootOf c Fresh = (c.tables ≡ []) × (c.last ≡ 0) × (c.ahm ≡ 0)
IsRootOf c (Root v r) = (r.tables ≡ c.tables) × (r.ahm ≡ c.ahm) × (v < c.next) × (all_reached c ≡ None → r.last ≡ c.last)

-- A catalogue and the stores of its projections stand for a database: they are it over the files, and each image opens to their root,
-- with the files that it lists.
pub record StandsFor (c : Catalogue) (stores : List (List Projected)) (told : Option Contents) (image : Contents → Type 0) (d : Database) : Type 0 where
  pub files : Contents
  pub are : AreDatabase files c stores d
  pub sound : IsSoundDatabase d
  pub root : Found
  pub is_root : IsRootOf c root
  pub quiet : Quiet told image root files
