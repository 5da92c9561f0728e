-- Files that a catalogue lists, and names that a folder has.
use Rattle.std.specs.Prelude.{ℕ, ◌+◌, ◌^◌, ◌<◌, ◌≤◌, List, Option, IfSome, Contains}
use Rattle.std.specs.List.{All, Any}
use Rattle.std.specs.List.Sorted.{IsNonDecreasing}
use Rattle.catalog_types.specs.Numbers.{file_count}
use Rattle.catalog_types.specs.declared.catalogue.Container.{Container}
use Rattle.catalog_types.specs.declared.catalogue.Projection.{Projection}
use Rattle.catalog_types.specs.declared.catalogue.Table.{Table}
use Rattle.stored_rows.specs.Listed.{IsListedOf}

-- a name isn't among ascending ones
abbrev pub IsAbsent : List ℕ → ℕ → Type 0
IsAbsent names q = IsNonDecreasing names → Contains names q → ⊥

-- a file of a container, or its delete vector, that isn't there
pub record IsMissingOf (names : List ℕ) (q : ℕ) (k : Container) : Type 0 where
  pub listed : IsListedOf k q
  pub absent : IsAbsent names q

abbrev pub IsMissingIn : List ℕ → ℕ → Projection → Type 0
IsMissingIn names q p = Any (IsMissingOf names q) p.containers

abbrev pub IsMissingAmong : List ℕ → ℕ → Table → Type 0
IsMissingAmong names q t = Any (IsMissingIn names q) t.projections

-- each file of a container, and its delete vector, is there
abbrev pub HasFilesOf : List ℕ → Container → Type 0
HasFilesOf names k = (q : ℕ) → IsListedOf k q → Contains names q

abbrev pub HasFilesIn : List ℕ → Projection → Type 0
HasFilesIn names p = All (HasFilesOf names) p.containers

abbrev pub HasFilesAmong : List ℕ → Table → Type 0
HasFilesAmong names t = All (HasFilesIn names) t.projections

-- the numbers of a container's files are numbers of names
abbrev pub IsNameable : Option ℕ → Type 0
IsNameable marks = IfSome marks (λ n. n < 2 ^ 62)

pub record HasNames (k : Container) : Type 0 where
  pub files : k.base + file_count k.stored ≤ 2 ^ 62
  pub vector : IsNameable k.marks

abbrev pub HasNamesIn : Projection → Type 0
HasNamesIn p = All HasNames p.containers

abbrev pub HasNamesAmong : Table → Type 0
HasNamesAmong t = All HasNamesIn t.projections
