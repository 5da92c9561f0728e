-- What reading a projection finds, and which file is to blame where it finds nothing.
use Rattle.std.specs.Prelude.{ℕ, ◌≡◌, ◌++◌, List, [], ◌∷◌, Option}
use Rattle.std.specs.List.{Any, AllZip}
use Rattle.common_laws.specs.Maps.{Contents}
use Rattle.col_disk.specs.declared.disk.StoreFault.{StoreFault}
use Rattle.col_disk.specs.declared.disk.StoreFault.TheVariants.{Disk, Damaged, Memory}
use Rattle.catalog_types.specs.declared.catalogue.Container.{Container}
use Rattle.catalog_types.specs.declared.catalogue.Projection.{Projection}
use Rattle.col_value.specs.declared.row.Stamped.{Stamped}
use Rattle.ros_container.specs.Encodings.{Written, written_of}
use Rattle.ros_container.specs.Held.{HoldsContainer, BlamesContainer}
use Rattle.stored_rows.specs.Held.{HoldsVector, HoldsMarked}
use Rattle.stored_rows.specs.Stored.{Beside, Projected, mark_in}
use Rattle.vector_files.specs.Blamed.{BlamesVector}
use Rattle.write_store.specs.declared.held.Held.{Held}
use Rattle.wanted_rows.specs.Picked.{asked_of, del_at}

-- a Damaged names the delete vector of a container that has none; no other fault says anything
abbrev pub BlamesLoad : List Container → Option Contents → StoreFault → Type 0
BlamesLoad ks holds (Damaged q) = Any (λ k. BlamesVector k holds (Damaged q)) ks
BlamesLoad ks holds Disk = Unit {0}
BlamesLoad ks holds Memory = Unit {0}

-- a Damaged names a file of a container that holds no rows; no other fault says anything
abbrev pub BlamesRows : Projection → Option Contents → StoreFault → Type 0
BlamesRows p holds (Damaged q) = Any (λ k. BlamesContainer (written_of p) k holds (Damaged q)) p.containers
BlamesRows p holds Disk = Unit {0}
BlamesRows p holds Memory = Unit {0}

-- rows in memory that a container holds, each with the epoch that deletes its position
pub record ReadsContainer (m : Contents) (written : List Written) (k : Container) (mark : ℕ → Option ℕ) (rows : List Held) : Type 0 where
  pub held : HoldsContainer m written k (asked_of rows)
  pub deleted : (i : ℕ) → del_at rows i ≡ mark i

-- the rows of some containers with what is kept of each, one container after the other
abbrev pub ReadsEach : Contents → List Written → List Container → List Beside → List Stamped → Type 0
ReadsEach m written [] [] rows = rows ≡ []
ReadsEach m written [] (b ∷ bs) rows = ⊥
ReadsEach m written (k ∷ ks) [] rows = ⊥
ReadsEach m written (k ∷ ks) (b ∷ bs) rows =
    (here : List Stamped) × (more : List Stamped) × HoldsMarked m written k (mark_in b) here × ReadsEach m written ks bs more × (rows ≡ here ++ more)

-- the delete vectors that are kept are those of the disk
abbrev pub HasVectors : Contents → Projected → Type 0
HasVectors m p = AllZip (λ k b. HoldsVector m k b.held) p.entry.containers p.beside
