-- Which file is to blame where a cut finds no rows.
use Rattle.std.specs.Prelude.{ℕ, ◌≡◌, ◌⊎◌, List, [], ◌∷◌, length, Option, Some}
use Rattle.std.specs.List.{Any}
use Rattle.common_laws.specs.Maps.{Contents}
use Rattle.col_disk.specs.declared.disk.StoreFault.{StoreFault}
use Rattle.col_disk.specs.declared.disk.StoreFault.TheVariants.{Disk, Damaged, Memory}
use Rattle.col_value.specs.declared.row.Stamped.{Stamped}
use Rattle.catalog_types.specs.declared.catalogue.Container.{Container}
use Rattle.catalog_types.specs.declared.catalogue.Projection.{Projection}
use Rattle.ros_container.specs.Encodings.{written_of}
use Rattle.ros_container.specs.Held.{BlamesContainer}
use Rattle.stored_rows.specs.Listed.{IsListedOf}
use Rattle.stored_rows.specs.Held.{HoldsRows}
use Rattle.vector_files.specs.Blamed.{BlamesVector}

-- the file isn't what it has to be: of a column that is stored, or of the epochs, the index, or the body whose index is one; or the delete vector
abbrev pub IsBadFile : Projection → Contents → ℕ → Container → Type 0
IsBadFile p m q k = BlamesContainer (written_of p) k (Some m) (Damaged q) ⊎ BlamesVector k (Some m) (Damaged q)

-- the file is one of a container of a projection, or its delete vector, and it is bad; so the container with its delete vector holds no rows
pub record IsDamageOf (p : Projection) (m : Contents) (q : ℕ) (k : Container) : Type 0 where
  pub listed : IsListedOf k q
  pub bad : IsBadFile p m q k
  pub none : (rows : List Stamped) → HoldsRows m (written_of p) (k ∷ []) rows → ⊥

abbrev pub IsDamageAmong : Projection → Contents → ℕ → List Container → Type 0
IsDamageAmong p m q ks = Any (IsDamageOf p m q) ks

abbrev pub IsDamageIn : Contents → ℕ → Projection → Type 0
IsDamageIn m q p = IsDamageAmong p m q p.containers

-- a Damaged names such a file; no other fault says anything
abbrev pub Blames : (Contents → ℕ → Type 0) → Option Contents → StoreFault → Type 0
Blames IsDamage holds (Damaged q) = (m : Contents) → holds ≡ Some m → IsDamage m q
Blames IsDamage holds Disk = Unit {0}
Blames IsDamage holds Memory = Unit {0}

abbrev pub BlamesOne : Projection → Container → Option Contents → StoreFault → Type 0
BlamesOne p k holds fault = Blames (λ m q. IsDamageOf p m q k) holds fault

abbrev pub BlamesProjection : Projection → Option Contents → StoreFault → Type 0
BlamesProjection p holds fault = Blames (λ m q. IsDamageIn m q p) holds fault
