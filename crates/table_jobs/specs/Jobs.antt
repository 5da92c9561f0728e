-- What the jobs of a statement make of a store.
use Rattle.std.specs.Prelude.{ℕ, ◌≡◌, ◌≤◌, ◌<◌, ◌+◌, ◌*◌, true, false, length, Result, IsSomeAnd}
use Rattle.std.specs.List.{slice_get}
use Rattle.col_disk.specs.declared.disk.Disk.{Ghosts}
use Rattle.catalog_types.specs.declared.catalogue.Catalogue.{Catalogue}
use Rattle.catalog_types.specs.declared.catalogue.Projection.{Projection}
use Rattle.db_model.specs.Database.{Database}
use Rattle.sound_laws.specs.Moves.{change_at, reached_at}
use Rattle.store_commit.specs.Seen.{Seen}
use Rattle.store_commit.specs.Making.{Makes}
use Rattle.table_store.specs.Moving.{with_entry}

-- the projection at a place of the table at a place is up to date, and on disk up to no later epoch than this one, which is closed
abbrev pub IsRiseAt : ℕ → ℕ → ℕ → Database → Type 0
IsRiseAt epoch i j d = IsSomeAnd (slice_get d.tables i) (λ t. IsSomeAnd (slice_get t.shapes j) (λ s. (s.fresh ≡ true) × (s.lge ≤ epoch) × (epoch ≤ d.last)))

-- A job over the projection at a place of the table at a place, which is up to date: it is on disk up to some later epoch then, or up to
-- the same one, and no row changes.
pub record MakesRise {D F : Type 0} (disk : Ghosts D) (short : F) (was is : Seen) (old new : D) (result : Result (Unit {0}) F) (d : Database) (i j : ℕ) : Type 0 where
  pub epoch : ℕ
  pub rises : IsRiseAt epoch i j d
  pub makes : Makes disk short was is old new result d (reached_at epoch i j d)

-- The projection at a place got another entry, which has at most so many containers more, and no other changed. For its containers and
-- their delete vectors, and for the catalogue's version, numbers were drawn: a projection has at most 64 columns.
pub record DrawsAnew (i j more : ℕ) (old new : Catalogue) (p : Projection) : Type 0 where
  pub entry : Projection
  pub tables : new.tables ≡ change_at i (with_entry j entry) old.tables
  pub last : new.last ≡ old.last
  pub from : old.next < new.next
  pub upto : new.next ≤ old.next + (length p.containers + 2) * 131 + 1
  pub count : length entry.containers ≤ length p.containers + more

-- the same, where it has at least two containers less
pub record DrawsMerged (i j : ℕ) (old new : Catalogue) (p : Projection) : Type 0 where
  pub draws : DrawsAnew i j 0 old new p
  pub less : length draws.entry.containers + 2 ≤ length p.containers

-- a projection is up to date, and on disk up to an epoch
abbrev pub HasReached : ℕ → Projection → Type 0
HasReached epoch p = (p.fresh ≡ true) × (p.lge ≡ epoch)

-- what is so of the projection at a place of the table at a place
abbrev pub OfProjection : ℕ → ℕ → Catalogue → (Projection → Type 0) → Type 0
OfProjection i j c P = IsSomeAnd (slice_get c.tables i) (λ t. IsSomeAnd (slice_get t.projections j) P)

-- the projection at a place of the table at a place isn't up to date
abbrev pub IsStaleAt : ℕ → ℕ → Database → Type 0
IsStaleAt i j d = IsSomeAnd (slice_get d.tables i) (λ t. IsSomeAnd (slice_get t.shapes j) (λ s. s.fresh ≡ false))
