-- A merge that is made step by step.
use Rattle.std.specs.Prelude.{ℕ, ◌≡◌, ◌<◌, true, length, IsSomeAnd}
use Rattle.std.specs.List.{slice_get}
use Rattle.common_laws.specs.Maps.{Contents}
use Rattle.col_disk.specs.Moved.{Leaves}
use Rattle.col_disk.specs.declared.disk.Disk.{Ghosts}
use Rattle.catalog_types.specs.declared.catalogue.Projection.{Projection}
use Rattle.ros_container.specs.Encodings.{written_of}
use Rattle.stored_rows.specs.Stored.{IsLoaded, Projected}
use Rattle.merge_rows.specs.Inputs.{IsMerging}
use Rattle.container_draft.specs.Draft.{IsDraft, one_more}
use Rattle.mergeout_job.specs.Job.{Mergeout}
use Rattle.db_model.specs.Database.{Database}
use Rattle.store_commit.specs.Making.{ReopensToEither}
use Rattle.store_commit.specs.Seen.{Seen, Stands}

-- the projection at a place of the table at a place, its entry, and its merge
pub record Working : Type 0 where
  pub table : ℕ
  pub place : ℕ
  pub entry : Projection
  pub job : Mergeout

abbrev pub working : ℕ → ℕ → Projection → Mergeout → Working
working table place entry job = record { table = table; place = place; entry = entry; job = job }

-- Over these files the merge has the rows of its inputs, as they were read from the disk, and the files of the columns that are done hold theirs.
pub record IsUnderWay (m : Contents) (w : Working) : Type 0 where
  pub loaded : Projected
  pub entry : loaded.entry ≡ w.entry
  pub read : IsLoaded m loaded
  pub merging : IsMerging m loaded w.job.merge
  pub draft : IsDraft m (written_of w.entry) w.job.draft

-- the files of all columns and those of the epochs are there
abbrev pub IsWhole : Working → Type 0
IsWhole w = length w.entry.columns < w.job.draft.done

-- It is of a store: its projection is up to date and has its entry, no number was drawn since it began, and the ancient history mark is its mark.
pub record IsOfStore (s : Seen) (w : Working) : Type 0 where
  pub own : IsSomeAnd (slice_get s.stores w.table) (λ ps. IsSomeAnd (slice_get ps w.place) (λ p. p.entry ≡ w.entry))
  pub fresh : w.entry.fresh ≡ true
  pub next : s.catalogue.next ≡ w.job.draft.base
  pub mark : s.catalogue.ahm ≡ w.job.merge.mark

-- one column more is done, and nothing else changed
pub record GoesOn (old new : Working) : Type 0 where
  pub table : new.table ≡ old.table
  pub place : new.place ≡ old.place
  pub entry : new.entry ≡ old.entry
  pub level : new.job.level ≡ old.job.level
  pub merge : new.job.merge ≡ old.job.merge
  pub draft : new.job.draft ≡ one_more old.job.draft

-- a store stands for a database still, and so does whatever a crash left since
pub record StaysWhile {D : Type 0} (disk : Ghosts D) (s : Seen) (old new : D) (d : Database) : Type 0 where
  pub stands : Stands disk s new d
  pub any_moment : Leaves disk (ReopensToEither d d) old new
