-- The files of a container.
use Rattle.std.specs.Prelude.{◌≡◌, ◌<◌, ◌+◌, ◌*◌, ℕ, Option, Some, None, ◌==◌, nat_lt, if◌then◌else◌}
use Rattle.catalog_types.specs.declared.catalogue.Container.{Container}

-- the body of the column in this place of the container with this base, and its index
abbrev pub body_of : ℕ → ℕ → ℕ
body_of base i = 4 * (base + 2 * i)

abbrev pub index_of : ℕ → ℕ → ℕ
index_of base i = 4 * (base + 2 * i + 1)

-- the place that column i of so many has among a container's files: the epochs stand behind those that it stores, and the others have none
abbrev pub place_of : ℕ → Container → ℕ → Option ℕ
place_of columns k i = if i == columns then Some k.stored else if nat_lt i k.stored then Some i else None

-- the name is of a file of a container with this base that stores so many columns
abbrev pub IsFileOf : ℕ → ℕ → ℕ → Type 0
IsFileOf base stored q = (j : ℕ) × (j < 2 * (stored + 1)) × (q ≡ 4 * (base + j))
