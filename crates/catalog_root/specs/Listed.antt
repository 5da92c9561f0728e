-- Which files a catalogue has no use for.
use Rattle.std.specs.Prelude.{◌≡◌, ◌≢◌, ◌⊎◌, ◌<◌, ◌≤◌, ◌-◌, ◌^◌, ℕ, List, min, Contains}
use Rattle.std.specs.List.{Any, flat_map, range_with_len}
use Rattle.catalog_types.specs.declared.span.Span.{Span}
use Rattle.catalog_types.specs.declared.catalogue.Container.{Container}
use Rattle.catalog_types.specs.declared.catalogue.Projection.{Projection}
use Rattle.catalog_types.specs.declared.catalogue.Table.{Table}
use Rattle.catalog_types.specs.declared.catalogue.Catalogue.{Catalogue}
use Rattle.catalog_types.specs.Numbers.{container_spans, table_spans}
use Rattle.catalog_root.specs.Root.{data_file, body_file, gate_file}

-- the number is in the span
abbrev pub IsIn : ℕ → Span → Type 0
IsIn n s = (s.first ≤ n) × (n < s.end)

-- the number is one of those of the catalogue's containers and delete vectors
abbrev pub IsListed : Catalogue → ℕ → Type 0
IsListed c n = Any (IsIn n) (flat_map table_spans c.tables)

-- a data file of which the number isn't one of these
abbrev pub IsStray : (ℕ → Type 0) → ℕ → Type 0
IsStray Listed q = (n : ℕ) × (q ≡ data_file n) × (Listed n → ⊥)

-- a body or a gate of another version
abbrev pub IsOfOther : ℕ → ℕ → Type 0
IsOfOther version q = (v : ℕ) × (v ≢ version) × ((q ≡ body_file v) ⊎ (q ≡ gate_file v))

abbrev pub HasNoUse : ℕ → (ℕ → Type 0) → ℕ → Type 0
HasNoUse version Listed q = IsStray Listed q ⊎ IsOfOther version q

-- a data file that the catalogue doesn't list, or a body or a gate of another version than its own
abbrev pub IsUnlisted : ℕ → Catalogue → ℕ → Type 0
IsUnlisted version c q = HasNoUse version (IsListed c) q

-- ---- the same by a list of the numbers, for names of files

-- the numbers of a span, as far as they are numbers of files
abbrev pub numbers_of : Span → List ℕ
numbers_of s = range_with_len s.first (min s.end (2 ^ 64 - 1) - s.first)

abbrev pub container_numbers : Container → List ℕ
container_numbers k = flat_map numbers_of (container_spans k)

abbrev pub projection_numbers : Projection → List ℕ
projection_numbers p = flat_map container_numbers p.containers

abbrev pub table_numbers : Table → List ℕ
table_numbers t = flat_map projection_numbers t.projections

abbrev pub listed_numbers : Catalogue → List ℕ
listed_numbers c = flat_map table_numbers c.tables

-- a file that has no use beside these numbers
abbrev pub IsSwept : ℕ → List ℕ → ℕ → Type 0
IsSwept version numbers q = (q < 2 ^ 64) × HasNoUse version (Contains numbers) q
