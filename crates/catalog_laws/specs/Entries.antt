-- When a projection's new entry keeps the rules, over one that kept them.
use Rattle.std.specs.Prelude.{ℕ, suc, Bool, true, ◌≡◌, ◌⊎◌, ◌<◌, ◌≤◌, ◌^◌, ◌++◌, ◌∷◌, ◌==◌, ◌&&◌, nat_le, if◌then◌else◌, List, [], length, take, drop, sum_by, Some, IfSome}
use Rattle.std.specs.List.{All, Any, filter}
use Rattle.catalog_types.specs.declared.catalogue.Container.{Container}
use Rattle.catalog_types.specs.declared.catalogue.Projection.{Projection}
use Rattle.catalog_types.specs.declared.catalogue.Table.{Table}
use Rattle.catalog_types.specs.declared.catalogue.Catalogue.{Catalogue}
use Rattle.catalog_types.specs.declared.span.Span.{Span}
use Rattle.catalog_types.specs.Lists.{Pairwise}
use Rattle.catalog_types.specs.Numbers.{AreApart, container_spans, files, projection_spans}
use Rattle.catalog_types.specs.Parts.{IsContainer}
use Rattle.catalog_laws.specs.Going.{AreDrawn}
use Rattle.catalog_laws.specs.declared.runs.Run.{Run}

-- the projection is the one that was created, and up to date
pub record KeepsShape (old new : Projection) : Type 0 where
  pub name : new.name ≡ old.name
  pub columns : new.columns ≡ old.columns
  pub sort : new.sort ≡ old.sort
  pub fresh : new.fresh ≡ true

-- a container stores all columns, or as many as one that was there
abbrev pub StoresAsBefore : ℕ → List Container → Container → Type 0
StoresAsBefore columns olds k = (k.stored ≡ columns) ⊎ Any (λ o. o.stored ≡ k.stored) olds

-- its containers keep the rules under a next number, and there are no more of them than were made
pub record KeepsContainers (next : ℕ) (old new : Projection) : Type 0 where
  pub each : All (IsContainer next (length new.columns) new.lge) new.containers
  pub stored : All (StoresAsBefore (length new.columns) old.containers) new.containers
  pub levels : sum_by (λ k. 4 ^ k.level) new.containers ≤ new.born
  pub born : new.born < next

-- its files have numbers of the old entry's, or that were drawn from a number on, and none has one twice
pub record KeepsNumbers (first : ℕ) (old new : Projection) : Type 0 where
  pub drawn : AreDrawn first (projection_spans old) (projection_spans new)
  pub once : Pairwise AreApart (projection_spans new)

-- an entry can stand in the place of another in the catalogue that comes next, with this last epoch and next number
pub record IsEntryAfter (c : Catalogue) (last next : ℕ) (old new : Projection) : Type 0 where
  pub shape : KeepsShape old new
  pub mark : c.ahm ≤ new.lge
  pub reached : new.lge ≤ last
  pub containers : KeepsContainers next old new
  pub numbers : KeepsNumbers c.next old new

-- the table with another entry at a place
abbrev pub with_entry_in : ℕ → Projection → Table → Table
with_entry_in j new t = record t { projections = take j t.projections ++ new ∷ drop (suc j) t.projections }

-- ---- how the numbers are tested: those that were there in their order, those that were drawn by themselves

-- no number of an entry's files stands twice, and all are below this one
pub record HasNumbersBelow (first : ℕ) (p : Projection) : Type 0 where
  pub below : All (λ s. s.end ≤ first) (projection_spans p)
  pub once : Pairwise AreApart (projection_spans p)

abbrev pub has_files : Container → Container → Bool
has_files k o = o.base == k.base && o.stored == k.stored

-- the containers from the first on that has the same files
abbrev pub from_files : Container → List Container → List Container
from_files k [] = []
from_files k (o ∷ olds) = if has_files k o then o ∷ olds else from_files k olds

-- all numbers of a container were drawn from a number on
pub record IsDrawn (first : ℕ) (k : Container) : Type 0 where
  pub files : first ≤ k.base
  pub vector : IfSome k.marks (λ m. first ≤ m)

-- a container has the files of another, and its delete vector or one whose number was drawn
pub record HasFilesOf (first : ℕ) (old new : Container) : Type 0 where
  pub files : files old ≡ files new
  pub vector : IfSome new.marks (λ m. (old.marks ≡ Some m) ⊎ (first ≤ m))

-- a container has numbers that were drawn, or is one of these, and the rest are those behind it
abbrev pub IsAmong : ℕ → List Container → Container → List Container → Type 0
IsAmong first olds k rest = (IsDrawn first k × (rest ≡ olds)) ⊎ ((front : List Container) × (o : Container) × (olds ≡ front ++ o ∷ rest) × HasFilesOf first o k)

-- containers with numbers that were drawn, among others that stand in their order
abbrev pub AreAmong : ℕ → List Container → List Container → Type 0
AreAmong first olds [] = Unit {0}
AreAmong first olds (k ∷ ks) = (rest : List Container) × IsAmong first olds k rest × AreAmong first rest ks

-- those of its numbers that were drawn
abbrev pub drawn_of : ℕ → Container → List Span
drawn_of first k = filter (λ s. nat_le first s.first) (container_spans k)

abbrev pub span_of_run : Run → Span
span_of_run r = record { first = r.first; end = r.end }
