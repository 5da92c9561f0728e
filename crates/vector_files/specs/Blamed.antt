-- Which file is to blame where a container has no delete vector.
use Rattle.std.specs.Prelude.{ℕ, ◌≡◌, List, Option, Some, None}
use Rattle.common_laws.specs.Maps.{Contents}
use Rattle.col_disk.specs.declared.disk.StoreFault.{StoreFault}
use Rattle.col_disk.specs.declared.disk.StoreFault.TheVariants.{Disk, Damaged, Memory}
use Rattle.catalog_types.specs.declared.catalogue.Container.{Container}
use Rattle.del_vector.specs.declared.mark.Mark.{Mark}
use Rattle.del_vector.specs.Spelling.{spelling}
use Rattle.stored_rows.specs.Listed.{vector_file}
use Rattle.stored_rows.specs.Held.{IsVectorOf, HoldsVectorAt}

-- the bytes are the spelling of no vector that the container could have
abbrev pub IsNoVector : Container → List ℕ → Type 0
IsNoVector k bytes = (marks : List Mark) → IsVectorOf k marks → bytes ≡ spelling marks → ⊥

abbrev pub BlamesBytes : Container → ℕ → List ℕ → StoreFault → Type 0
BlamesBytes k number bytes (Damaged q) = (q ≡ vector_file number) × IsNoVector k bytes
BlamesBytes k number bytes Disk = Unit {0}
BlamesBytes k number bytes Memory = Unit {0}

-- a Damaged names the file of this number, and it holds no vector that the container could have; no other fault says anything
abbrev pub BlamesNumber : Container → ℕ → Option Contents → StoreFault → Type 0
BlamesNumber k number holds (Damaged q) = (q ≡ vector_file number) × ((m : Contents) → holds ≡ Some m → (marks : List Mark) → HoldsVectorAt m k (Some number) marks → ⊥)
BlamesNumber k number holds Disk = Unit {0}
BlamesNumber k number holds Memory = Unit {0}

-- the file is that of a container's delete vector, and the container holds none at all
abbrev pub IsNoVectorAt : Container → Option Contents → ℕ → Option ℕ → Type 0
IsNoVectorAt k holds q None = ⊥
IsNoVectorAt k holds q (Some number) = BlamesNumber k number holds (Damaged q)

abbrev pub BlamesVector : Container → Option Contents → StoreFault → Type 0
BlamesVector k holds (Damaged q) = IsNoVectorAt k holds q k.marks
BlamesVector k holds Disk = Unit {0}
BlamesVector k holds Memory = Unit {0}
