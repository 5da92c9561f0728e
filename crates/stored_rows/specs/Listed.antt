-- The files that a projection of the catalogue lists.
use Rattle.std.specs.Prelude.{ℕ, ◌≡◌, ◌⊎◌, ◌*◌, Option, Some, None}
use Rattle.std.specs.List.{All}
use Rattle.std.specs.FinMap.{get}
use Rattle.common_laws.specs.Maps.{Contents}
use Rattle.catalog_types.specs.declared.catalogue.Container.{Container}
use Rattle.catalog_types.specs.declared.catalogue.Projection.{Projection}
use Rattle.ros_container.specs.Files.{IsFileOf}

-- the file of a delete vector of this number
abbrev pub vector_file : ℕ → ℕ
vector_file n = 4 * n

abbrev pub IsVectorFile : Option ℕ → ℕ → Type 0
IsVectorFile None q = ⊥
IsVectorFile (Some n) q = q ≡ vector_file n

-- a file of a container, or its delete vector
abbrev pub IsListedOf : Container → ℕ → Type 0
IsListedOf k q = IsFileOf k.base k.stored q ⊎ IsVectorFile k.marks q

-- the files of a container are in both the same
abbrev pub SameFiles : Contents → Contents → Container → Type 0
SameFiles m n k = (q : ℕ) → IsListedOf k q → get n q ≡ get m q

-- all files that a projection lists are in both the same
abbrev pub SameEntry : Contents → Contents → Projection → Type 0
SameEntry m n p = All (SameFiles m n) p.containers
