-- A new root in the place of another.
use Rattle.std.specs.Prelude.{ℕ, ◌⊎◌, Result, OnOk, IsErrOf}
use Rattle.common_laws.specs.Maps.{Contents}
use Rattle.col_disk.specs.Moved.{Leaves, ImageOf}
use Rattle.col_disk.specs.declared.disk.Disk.{Ghosts}
use Rattle.col_disk.specs.declared.disk.DiskFault.{DiskFault}
use Rattle.col_disk.specs.declared.disk.DiskFault.TheVariants.{Memory}
use Rattle.catalog_types.specs.declared.catalogue.Catalogue.{Catalogue}
use Rattle.catalog_root.specs.declared.found.Found.{Found}
use Rattle.catalog_root.specs.declared.found.Found.TheVariants.{Root}
use Rattle.catalog_root.specs.Quiet.{SameListed, KeepsRoot, Quiet}

-- the disk is quiet on a root, with the files that it lists as they were
abbrev pub IsSettled : {D : Type 0} → Ghosts D → Contents → Found → D → Type 0
IsSettled disk m root now = (n : Contents) × Quiet (disk.holds now) (ImageOf disk now) root n × SameListed m n root

-- Then the disk is quiet on the new root; where memory was short it is quiet on the old one; and whatever a crash left since the beginning
-- opens to one of the two, with the files that it lists.
pub record Replaces {D : Type 0} (disk : Ghosts D) (m : Contents) (was : Found) (version : ℕ) (c : Catalogue) (old new : D) (result : Result (Unit {0}) DiskFault) : Type 0 where
  pub done : OnOk result (IsSettled disk m (Root version c) new)
  pub undone : IsErrOf result Memory → IsSettled disk m was new
  pub any_moment : Leaves disk (λ x. KeepsRoot m was x ⊎ KeepsRoot m (Root version c) x) old new
