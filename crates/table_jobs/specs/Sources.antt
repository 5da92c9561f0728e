-- That a projection was made out of another of its table.
use Rattle.std.specs.Prelude.{ℕ, ◌≡◌, ◌<◌, List, length, map}
use Rattle.std.specs.List.{AllZip, slice_index_or}
use Rattle.common_laws.specs.Maps.{Contents}
use Rattle.catalog_types.specs.declared.catalogue.ProjColumn.{ProjColumn}
use Rattle.catalog_types.specs.declared.catalogue.Projection.{Projection}
use Rattle.stored_rows.specs.Stored.{Projected}
use Rattle.folder_model.specs.Projections.{ordinals}
use Rattle.refresh_job.specs.Job.{RefreshesFrom}

-- which columns of their table these are
abbrev pub ordinals_of : List ProjColumn → List ℕ
ordinals_of columns = map (λ c. c.ordinal) columns

-- a column of the table stands at this place of these
abbrev pub IsPlaceOf : List ℕ → ℕ → ℕ → Type 0
IsPlaceOf source place ordinal = (place < length source) × (slice_index_or source place 0 ≡ ordinal)

-- each of these columns stands at its place of the source's
abbrev pub ArePlaces : List ℕ → List ℕ → List ℕ → Type 0
ArePlaces source places columns = AllZip (IsPlaceOf source) places columns

-- The entry holds, from a mark on, what the source stores, with its own columns, which stand at these places of the source's.
pub record IsMadeOf (mark : ℕ) (m n : Contents) (source : Projected) (entry : Projection) : Type 0 where
  pub places : List ℕ
  pub are : ArePlaces (ordinals source.entry) places (ordinals entry)
  pub rows : RefreshesFrom mark places m n source entry
