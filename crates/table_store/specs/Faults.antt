-- Projections that can be read, and which file is to blame where one can't.
use Rattle.std.specs.Prelude.{ℕ, ◌⊎◌, List, Option, Some, IsSomeAnd}
use Rattle.std.specs.Bool.{OnTrue}
use Rattle.std.specs.List.{Any, slice_get}
use Rattle.common_laws.specs.Maps.{Contents}
use Rattle.col_disk.specs.declared.disk.StoreFault.{StoreFault}
use Rattle.col_disk.specs.declared.disk.StoreFault.TheVariants.{Disk, Damaged, Memory}
use Rattle.col_value.specs.declared.row.Stamped.{Stamped}
use Rattle.catalog_types.specs.declared.catalogue.Projection.{Projection}
use Rattle.stored_rows.specs.Stored.{Projected, Stores}
use Rattle.proj_store.specs.Reading.{BlamesLoad, BlamesRows}

-- a projection that is up to date stores rows
abbrev pub IsReadable : Contents → Projected → Type 0
IsReadable m p = OnTrue p.entry.fresh ((rows : List Stamped) × Stores m p rows)

-- a Damaged names a file of a container of one of these projections, and the container holds no rows; no other fault says anything
abbrev pub BlamesParts : List Projected → Option Contents → StoreFault → Type 0
BlamesParts ps holds (Damaged q) = Any (λ p. BlamesRows p.entry holds (Damaged q)) ps
BlamesParts ps holds Disk = Unit {0}
BlamesParts ps holds Memory = Unit {0}

-- so it is of the projections of each table
abbrev pub BlamesStored : List (List Projected) → Option Contents → StoreFault → Type 0
BlamesStored pss holds (Damaged q) = Any (λ ps. BlamesParts ps holds (Damaged q)) pss
BlamesStored pss holds Disk = Unit {0}
BlamesStored pss holds Memory = Unit {0}

-- a Damaged names the delete vector of a container of the projection at a place of the table at a place, and the container has none; no other
-- fault says anything
abbrev pub BlamesVectorsAt : List (List Projected) → ℕ → ℕ → Contents → StoreFault → Type 0
BlamesVectorsAt pss i j m (Damaged q) = IsSomeAnd (slice_get pss i) (λ ps. IsSomeAnd (slice_get ps j) (λ p. BlamesLoad p.entry.containers (Some m) (Damaged q)))
BlamesVectorsAt pss i j m Disk = Unit {0}
BlamesVectorsAt pss i j m Memory = Unit {0}

-- so it is of one of the projections of these tables
abbrev pub BlamesVectors : List (List Projected) → Contents → StoreFault → Type 0
BlamesVectors pss m (Damaged q) = Any (λ ps. Any (λ p. BlamesLoad p.entry.containers (Some m) (Damaged q)) ps) pss
BlamesVectors pss m Disk = Unit {0}
BlamesVectors pss m Memory = Unit {0}

-- a Damaged names a file of a container of the projection that holds no rows, or the delete vector of a container that has none; no other fault
-- says anything
abbrev pub BlamesEntry : Projection → Option Contents → StoreFault → Type 0
BlamesEntry p holds (Damaged q) = BlamesRows p holds (Damaged q) ⊎ BlamesLoad p.containers holds (Damaged q)
BlamesEntry p holds Disk = Unit {0}
BlamesEntry p holds Memory = Unit {0}

-- so it is of one of the projections of these tables
abbrev pub BlamesHeld : List (List Projected) → Option Contents → StoreFault → Type 0
BlamesHeld pss holds (Damaged q) = Any (λ ps. Any (λ p. BlamesEntry p.entry holds (Damaged q)) ps) pss
BlamesHeld pss holds Disk = Unit {0}
BlamesHeld pss holds Memory = Unit {0}
