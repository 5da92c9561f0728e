-- A disk on which one root stands, whatever a crash leaves.
use Rattle.std.specs.Prelude.{◌≡◌, ℕ, Option, Some}
use Rattle.std.specs.FinMap.{get}
use Rattle.common_laws.specs.Maps.{Contents}
use Rattle.catalog_root.specs.declared.found.Found.{Found}
use Rattle.catalog_root.specs.declared.found.Found.TheVariants.{Fresh, Root}
use Rattle.catalog_root.specs.Root.{data_file, Opens}
use Rattle.catalog_root.specs.Listed.{IsListed, IsStray, IsUnlisted}

-- every file that the root lists has in the image the bytes that it has in the contents
abbrev pub SameListed : Contents → Contents → Found → Type 0
SameListed m c Fresh = Unit {0}
SameListed m c (Root v catalogue) = (n : ℕ) → IsListed catalogue n → get c (data_file n) ≡ get m (data_file n)

pub record KeepsRoot (m : Contents) (root : Found) (c : Contents) : Type 0 where
  pub opens : Opens c root
  pub same : SameListed m c root

-- the disk holds these contents, and each image opens to this root, with its files
pub record Quiet (told : Option Contents) (image : Contents → Type 0) (root : Found) (m : Contents) : Type 0 where
  pub told_is : told ≡ Some m
  pub every : (c : Contents) → image c → KeepsRoot m root c

-- a data file that the root doesn't list, which may be written; where nothing was ever stored there is none
abbrev pub IsSpare : Found → ℕ → Type 0
IsSpare Fresh q = ⊥
IsSpare (Root v catalogue) q = IsStray (IsListed catalogue) q

-- a file that the root has no use for, which may be removed
abbrev pub IsUseless : Found → ℕ → Type 0
IsUseless Fresh q = ⊥
IsUseless (Root v catalogue) q = IsUnlisted v catalogue q
