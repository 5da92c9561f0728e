-- When the catalogue that comes next is valid.
use Rattle.std.specs.Prelude.{◌≢◌, ℕ, ◌^◌, ◌<◌, ◌≤◌, ◌⊎◌, ◌++◌, List, [], ◌∷◌, length, take, drop, ◌≡◌}
use Rattle.std.specs.Bool.{OnTrue}
use Rattle.std.specs.List.{All, Contains, flat_map}
use Rattle.catalog_types.specs.declared.catalogue.Projection.{Projection}
use Rattle.catalog_types.specs.declared.catalogue.Table.{Table}
use Rattle.catalog_types.specs.declared.catalogue.Catalogue.{Catalogue}
use Rattle.catalog_types.specs.declared.span.Span.{Span}
use Rattle.catalog_types.specs.Lists.{Pairwise}
use Rattle.catalog_types.specs.Names.{IsBelow, names_of}
use Rattle.catalog_types.specs.Numbers.{AreApart, projection_spans, table_spans}
use Rattle.catalog_types.specs.Parts.{HasReached, IsTable}

-- a catalogue of one table
abbrev pub alone : ℕ → ℕ → ℕ → Table → Catalogue
alone last ahm next t = record { last = last; ahm = ahm; next = next; tables = t ∷ [] }

-- a later catalogue, over the same ancient history mark
abbrev pub later : ℕ → ℕ → List Table → Catalogue → Catalogue
later last next tables c = record { last = last; ahm = c.ahm; next = next; tables = tables }

-- The last epoch and the next number of a later catalogue. Numbers are drawn below 2 ^ 61: so recovery has as many again.
pub record GoesOn (c : Catalogue) (last next : ℕ) : Type 0 where
  pub epoch : c.last ≤ last
  pub epochs : last < 2 ^ 63
  pub number : c.next ≤ next
  pub numbers : next < 2 ^ 61

-- no table or projection has this name
abbrev pub IsFree : List Table → List ℕ → Type 0
IsFree tables n = All (λ m. n ≢ m) (flat_map names_of tables)

-- each of these numbers stands among those, or was drawn from a number on
abbrev pub AreDrawn : ℕ → List Span → List Span → Type 0
AreDrawn first old new = All (λ s. Contains old s ⊎ (first ≤ s.first)) new

-- tables before a place have names below this one, those from there on names above it
pub record IsPlace (tables : List Table) (place : ℕ) (n : List ℕ) : Type 0 where
  pub before : All (λ t. IsBelow t.name n) (take place tables)
  pub behind : All (λ t. IsBelow n t.name) (drop place tables)

-- A table that no catalogue has yet can join those of one at a place: there are fewer than the most that can be, its names are free, and its
-- name stands between those before it and those from there on.
pub record Joins (c : Catalogue) (at : ℕ) (t : Table) : Type 0 where
  pub few : length c.tables < 1024
  pub names : All (IsFree c.tables) (names_of t)
  pub place : IsPlace c.tables at t.name

-- a projection that a table can have in the next catalogue: its name is one of the table's or free, and so are its numbers
pub record IsOwn (c : Catalogue) (t : Table) (p : Projection) : Type 0 where
  pub name : Contains (names_of t) p.name ⊎ IsFree c.tables p.name
  pub numbers : AreDrawn c.next (table_spans t) (projection_spans p)

-- each up-to-date projection has reached an epoch
abbrev pub HaveReached : ℕ → List Table → Type 0
HaveReached epoch tables = All (λ t. All (λ p. OnTrue p.fresh (epoch ≤ p.lge)) t.projections) tables

-- The catalogue has some tables in the place of others, and the rest as it was. The new ones are tables of it; their names are the names of
-- those that went, or were free; and so are their numbers.
pub record IsNext (c n : Catalogue) (front old new back : List Table) : Type 0 where
  pub was : c.tables ≡ front ++ (old ++ back)
  pub is : n.tables ≡ front ++ (new ++ back)
  pub goes : GoesOn c n.last n.next
  pub mark : n.ahm ≤ n.last
  pub most : length n.tables ≤ 1024
  pub reached : All (λ t. All (HasReached n) t.projections) (front ++ back)
  pub tables : All (IsTable n) new
  pub ascending : Pairwise (λ t u. IsBelow t.name u.name) n.tables
  pub names : All (λ m. Contains (flat_map names_of old) m ⊎ All (λ o. m ≢ o) (flat_map names_of (front ++ back))) (flat_map names_of new)
  pub names_once : Pairwise ◌≢◌ (flat_map names_of new)
  pub numbers : AreDrawn c.next (flat_map table_spans old) (flat_map table_spans new)
  pub numbers_once : Pairwise AreApart (flat_map table_spans new)
