-- A catalogue in which one entry is another.
use Rattle.std.specs.Prelude.{ℕ, ◌≡◌, ◌≤◌, ◌+◌, true, List, Option, Some, IsSomeAnd}
use Rattle.std.specs.List.{slice_get}
use Rattle.common_laws.specs.Maps.{Contents}
use Rattle.stored_rows.specs.Stored.{Projected, IsLoaded}
use Rattle.moveout_job.specs.OnDisk.{IsMovedOut, KeepsStored}
use Rattle.catalog_laws.specs.Entries.{IsEntryAfter, KeepsShape}
use Rattle.catalog_types.specs.declared.catalogue.Projection.{Projection}
use Rattle.catalog_types.specs.declared.catalogue.Table as kept
use Rattle.catalog_types.specs.declared.catalogue.Catalogue.{Catalogue}
use Rattle.sound_laws.specs.Moves.{change_at}

-- the projection at a place of a table has another entry
abbrev pub with_entry : ℕ → Projection → kept.Table → kept.Table
with_entry j entry t = record t { projections = change_at j (λ p. entry) t.projections }

-- the catalogue with another entry at a place, whose version is the number before its next one
abbrev pub with_entry_at : ℕ → ℕ → ℕ → ℕ → Projection → Catalogue → Catalogue
with_entry_at last version i j entry c = record { last = last; ahm = c.ahm; next = version + 1; tables = change_at i (with_entry j entry) c.tables }

-- an entry is one of the projection at a place of a table
abbrev pub KeepsShapeAt : Catalogue → ℕ → ℕ → Projection → Type 0
KeepsShapeAt root i j entry = IsSomeAnd (slice_get root.tables i) (λ t. IsSomeAnd (slice_get t.projections j) (λ p. KeepsShape p entry))

-- it can stand there in the next catalogue, with this last epoch and next number
abbrev pub KeepsRulesAt : Catalogue → ℕ → ℕ → ℕ → ℕ → Projection → Type 0
KeepsRulesAt root last next i j entry = IsSomeAnd (slice_get root.tables i) (λ t. IsSomeAnd (slice_get t.projections j) (λ p. IsEntryAfter root last next p entry))

-- the projection at a place of the table at a place is up to date
abbrev pub IsFreshAt : List (List Projected) → ℕ → ℕ → Type 0
IsFreshAt stores i j = IsSomeAnd (slice_get stores i) (λ ps. IsSomeAnd (slice_get ps j) (λ p. p.entry.fresh ≡ true))

-- The projection at a place was moved out between two moments of a disk, and read from there; the catalogue has its new entry, and its
-- version is a number that was free.
pub record IsRewrittenFrom (last : ℕ) (root : Catalogue) (i j version : ℕ) (c : Catalogue) (old new : Projected) (found left : Option Contents) : Type 0 where
  pub entry : IsMovedOut last root.next version old.entry new.entry
  pub catalogue : c ≡ with_entry_at last version i j new.entry root
  pub rows : KeepsStored root.next old new.entry found left
  pub loaded : (n : Contents) → left ≡ Some n → IsLoaded n new
  pub drawn : root.next ≤ version

abbrev pub IsRewritten : ℕ → Catalogue → List (List Projected) → ℕ → ℕ → ℕ → Catalogue → Projected → Option Contents → Option Contents → Type 0
IsRewritten last root stores i j version c new found left =
    IsSomeAnd (slice_get stores i) (λ ps. IsSomeAnd (slice_get ps j) (λ old. IsRewrittenFrom last root i j version c old new found left))
