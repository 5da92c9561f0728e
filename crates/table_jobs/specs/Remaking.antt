-- A refresh that is made step by step.
use Rattle.std.specs.Prelude.{ℕ, ◌≡◌, ◌<◌, true, false, length, IsSomeAnd}
use Rattle.std.specs.List.{slice_get}
use Rattle.common_laws.specs.Maps.{Contents}
use Rattle.catalog_types.specs.declared.catalogue.Projection.{Projection}
use Rattle.ros_container.specs.Encodings.{written_of}
use Rattle.stored_rows.specs.Stored.{IsLoaded, Projected}
use Rattle.container_draft.specs.Draft.{IsDraft, one_more}
use Rattle.refresh_job.specs.Job.{IsRefreshing, Refreshing}
use Rattle.folder_model.specs.Projections.{ordinals}
use Rattle.store_commit.specs.Seen.{Seen}
use Rattle.table_jobs.specs.Sources.{ArePlaces}

-- the projection at a place of the table at a place, its entry, the place of its source among the table's projections, the entry of that, and the refresh
pub record Remaking : Type 0 where
  pub table : ℕ
  pub place : ℕ
  pub shape : Projection
  pub from : ℕ
  pub source : Projection
  pub job : Refreshing

abbrev pub remaking : ℕ → ℕ → Projection → ℕ → Projection → Refreshing → Remaking
remaking table place shape from source job = record { table = table; place = place; shape = shape; from = from; source = source; job = job }

-- Over these files the refresh has the rows of its source's containers, as they were read from the disk, and the files of the columns that are done hold theirs.
pub record IsBeingMade (m : Contents) (w : Remaking) : Type 0 where
  pub loaded : Projected
  pub entry : loaded.entry ≡ w.source
  pub read : IsLoaded m loaded
  pub columns : ArePlaces (ordinals w.source) w.job.via (ordinals w.shape)
  pub refreshing : IsRefreshing m loaded w.job
  pub draft : IsDraft m (written_of w.shape) w.job.draft

-- the files of all columns and those of the epochs are there
abbrev pub IsWritten : Remaking → Type 0
IsWritten w = length w.shape.columns < w.job.draft.done

-- It is of a store: its projection isn't up to date and has its entry, its source is and has its own, no number was drawn since it began, and the ancient history mark is its mark.
pub record IsMadeOver (s : Seen) (w : Remaking) : Type 0 where
  pub own : IsSomeAnd (slice_get s.stores w.table) (λ ps. IsSomeAnd (slice_get ps w.place) (λ p. p.entry ≡ w.shape))
  pub of : IsSomeAnd (slice_get s.stores w.table) (λ ps. IsSomeAnd (slice_get ps w.from) (λ p. p.entry ≡ w.source))
  pub stale : w.shape.fresh ≡ false
  pub fresh : w.source.fresh ≡ true
  pub next : s.catalogue.next ≡ w.job.draft.base
  pub mark : s.catalogue.ahm ≡ w.job.mark

-- one column more is done, and nothing else changed
pub record IsMadeOn (old new : Remaking) : Type 0 where
  pub table : new.table ≡ old.table
  pub place : new.place ≡ old.place
  pub shape : new.shape ≡ old.shape
  pub from : new.from ≡ old.from
  pub source : new.source ≡ old.source
  pub mark : new.job.mark ≡ old.job.mark
  pub via : new.job.via ≡ old.job.via
  pub draft : new.job.draft ≡ one_more old.job.draft
