-- The numbers that an event draws, and how many containers there are then.
use Rattle.std.specs.Prelude.{ℕ, ◌≡◌, ◌≤◌, ◌<◌, ◌+◌, length, IsSomeAnd}
use Rattle.std.specs.List.{All, slice_get}
use Rattle.catalog_types.specs.declared.catalogue.Projection.{Projection}
use Rattle.catalog_types.specs.declared.catalogue.Catalogue.{Catalogue}
use Rattle.db_model.specs.Numbers.{most_drawn}
use Rattle.sound_laws.specs.Moves.{change_at}
use Rattle.table_store.specs.Moving.{with_entry}

-- no projection has more containers than this
abbrev pub FewContainers : ℕ → Catalogue → Type 0
FewContainers most c = All (λ t. All (λ p. length p.containers ≤ most) t.projections) c.tables

-- Some numbers were drawn, no more than an event may draw, and a projection has at most two containers more.
pub record Draws (old new : Catalogue) : Type 0 where
  pub from : old.next < new.next
  pub upto : (most : ℕ) → FewContainers most old → new.next ≤ old.next + most_drawn most
  pub few : (most : ℕ) → FewContainers most old → FewContainers (most + 2) new

-- One number was drawn, and no projection has more containers.
pub record DrawsOne (old new : Catalogue) : Type 0 where
  pub next : new.next ≡ old.next + 1
  pub few : (most : ℕ) → FewContainers most old → FewContainers most new

-- The projection at a place of a table got another entry, by which all its data up to the newest epoch is on disk, and no other changed. It
-- has at most one container more; for that, for a delete vector of each container that it had and for the catalogue's version, numbers were
-- drawn: a projection has at most 64 columns.
pub record DrawsEntry (i j : ℕ) (old new : Catalogue) (p : Projection) : Type 0 where
  pub entry : Projection
  pub tables : new.tables ≡ change_at i (with_entry j entry) old.tables
  pub last : new.last ≡ old.last
  pub from : old.next < new.next
  pub upto : new.next ≤ old.next + length p.containers + 132
  pub count : length entry.containers ≤ length p.containers + 1
  pub reached : entry.lge ≡ new.last

abbrev pub DrawsJob : ℕ → ℕ → Catalogue → Catalogue → Type 0
DrawsJob i j old new = IsSomeAnd (slice_get old.tables i) (λ t. IsSomeAnd (slice_get t.projections j) (DrawsEntry i j old new))
