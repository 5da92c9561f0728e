-- What is always so of a merge or a refresh on its way.
use Rattle.std.specs.Prelude.{ℕ, ◌≡◌, ◌≤◌, [], length}
use Rattle.catalog_types.specs.declared.catalogue.Projection.{Projection}
use Rattle.mergeout_job.specs.Job.{Mergeout}
use Rattle.mergeout_job.specs.Oldest.{AreFour}
use Rattle.refresh_job.specs.Job.{Refreshing}

-- the numbers of its files, its mark and how many columns are done are these, and its inputs are four containers of the entry
pub record IsSteady (base mark done : ℕ) (entry : Projection) (job : Mergeout) : Type 0 where
  pub base_is : job.draft.base ≡ base
  pub mark_is : job.merge.mark ≡ mark
  pub done_is : job.draft.done ≡ done
  pub four : AreFour job.level job.merge.inputs entry.containers
  pub narrow : length entry.columns ≤ 64

-- The same of a refresh on its way. Its projection has no rows.
pub record IsSteadyRemake (base mark done : ℕ) (shape : Projection) (job : Refreshing) : Type 0 where
  pub base_is : job.draft.base ≡ base
  pub mark_is : job.mark ≡ mark
  pub done_is : job.draft.done ≡ done
  pub bare : shape.containers ≡ []
  pub narrow : length shape.columns ≤ 64
