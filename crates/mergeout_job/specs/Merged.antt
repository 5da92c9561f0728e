-- The entry of a projection after a mergeout.
use Rattle.std.specs.Prelude.{ℕ, ◌≡◌, ◌+◌, ◌++◌, List, length, Option}
use Rattle.catalog_types.specs.declared.catalogue.Container.{Container}
use Rattle.catalog_types.specs.declared.catalogue.Projection.{Projection}
use Rattle.container_writer.specs.Writing.{listed}
use Rattle.merge_rows.specs.Inputs.{replaced}
use Rattle.merge_rows.specs.Rewritten.{rewritten_to, reached_by}
use Rattle.container_draft.specs.Finished.{AreFinished}
use Rattle.moveout_job.specs.OnDisk.{AreSaved}
use Rattle.mergeout_job.specs.Job.{Mergeout}

-- the containers: the output in the place of the oldest input, and behind all others what was made of the rows in memory
abbrev pub merged : Mergeout → Option Container → List Container → Option Container → List Container
merged j made others memory = replaced j.merge.inputs (listed made) others ++ listed memory

-- an entry with containers that were written anew, of which so many more of level 0; it has all rows up to the greatest epoch that it holds
abbrev pub with_containers : List Container → ℕ → Projection → Projection
with_containers ks more old = rewritten_to (reached_by old.lge ks) (old.born + more) ks old

-- The entry after a mergeout: its output, of the next level, with a delete vector of number `next`, and the other containers and the rows in memory
-- with numbers behind that and up to `after`.
pub record IsMerged (next after : ℕ) (j : Mergeout) (old new : Projection) : Type 0 where
  pub made : Option Container
  pub others : List Container
  pub memory : Option Container
  pub mid : ℕ
  pub output : AreFinished (length old.columns) (j.level + 1) next mid j.draft made
  pub saved : AreSaved mid after (length old.columns) old.containers others memory
  pub is : new ≡ with_containers (merged j made others memory) (length (listed memory)) old
