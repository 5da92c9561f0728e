-- What a crash in a commit may leave.
use Rattle.std.specs.Prelude.{◌≡◌, ◌⊎◌, ◌<◌, ℕ, Option, Some}
use Rattle.common_laws.specs.Maps.{Contents}
use Rattle.col_disk.specs.Moved.{Changed, NoName, Named, Either, LikeOne}
use Rattle.catalog_types.specs.declared.catalogue.Catalogue.{Catalogue}
use Rattle.catalog_root.specs.declared.found.Found.{Found}
use Rattle.catalog_root.specs.declared.found.Found.TheVariants.{Fresh, Root}
use Rattle.catalog_root.specs.Root.{body_file, gate_file, IsWritten, Opens}

-- the body and the gate of a version
abbrev pub RootNames : ℕ → ℕ → Type 0
RootNames version = Either (Named (body_file version)) (Named (gate_file version))

-- a version above the one that a disk opens to
abbrev pub IsLater : Found → ℕ → Type 0
IsLater Fresh version = Unit {0}
IsLater (Root v c) version = v < version

-- what is told, and that each image opens to the same, below a version
pub record IsRooted (told : Option Contents) (image : Contents → Type 0) (was : Found) (version : ℕ) (m : Contents) : Type 0 where
  pub told_is : told ≡ Some m
  pub opens : (c : Contents) → image c → Opens c was
  pub later : IsLater was version

-- the image opens as before, and but for the body and the gate it is one from before
pub record IsOld (was : Found) (version : ℕ) (before : Contents → Type 0) (c : Contents) : Type 0 where
  pub opens : Opens c was
  pub like : LikeOne (RootNames version) NoName before c

-- the image opens to the new version, written, and but for the body and the gate it is what the disk held before
pub record IsNew (version : ℕ) (catalogue : Catalogue) (m c : Contents) : Type 0 where
  pub written : IsWritten c version catalogue
  pub like : Changed (RootNames version) NoName m c

abbrev pub OldOrNew : Found → ℕ → Catalogue → (Contents → Type 0) → Contents → Contents → Type 0
OldOrNew was version catalogue before m c = IsOld was version before c ⊎ IsNew version catalogue m c

-- what the disk holds is the new one, and a crash leaves nothing else
pub record IsReplaced (told : Option Contents) (image : Contents → Type 0) (version : ℕ) (catalogue : Catalogue) (m : Contents) : Type 0 where
  pub now : Contents
  pub told_is : told ≡ Some now
  pub only : (c : Contents) → image c → c ≡ now
  pub new : IsNew version catalogue m now
