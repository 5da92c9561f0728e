-- The rows of a projection with what is kept of it in memory.
use Rattle.std.specs.Prelude.{ℕ, ◌≡◌, ◌<◌, ◌++◌, List, [], ◌∷◌, Option, Some}
use Rattle.std.specs.Option.{option_or}
use Rattle.std.specs.List.{All, AllZip}
use Rattle.common_laws.specs.Maps.{Contents}
use Rattle.col_value.specs.declared.row.Stamped.{Stamped}
use Rattle.catalog_types.specs.declared.catalogue.Container.{Container}
use Rattle.catalog_types.specs.declared.catalogue.Projection.{Projection}
use Rattle.ros_container.specs.Encodings.{Written, written_of}
use Rattle.del_vector.specs.declared.mark.Mark.{Mark}
use Rattle.del_vector.specs.Marks.{epoch_at}
use Rattle.stored_rows.specs.Held.{HoldsVector, HoldsMarked}

-- what is kept in memory of a container: its delete vector, and the marks that came since
pub record Beside : Type 0 where
  pub held : List Mark
  pub fresh : List Mark

-- the epoch in which a position was deleted, by the vector or by a mark that came since
abbrev pub mark_in : Beside → ℕ → Option ℕ
mark_in b i = option_or (epoch_at b.held i) (epoch_at b.fresh i)

-- A projection: its entry in the catalogue, what is kept in memory of each of its containers, and the rows that aren't on disk.
pub record Projected : Type 0 where
  pub entry : Projection
  pub beside : List Beside
  pub unsaved : List Stamped

-- the rows of listed containers with what is kept of each, the oldest container first
abbrev pub StoresRows : Contents → List Written → List Container → List Beside → List Stamped → Type 0
StoresRows m written [] [] rows = rows ≡ []
StoresRows m written [] (b ∷ bs) rows = ⊥
StoresRows m written (k ∷ ks) [] rows = ⊥
StoresRows m written (k ∷ ks) (b ∷ bs) rows =
    (here : List Stamped) × (more : List Stamped)
    × HoldsVector m k b.held × HoldsMarked m written k (mark_in b) here × StoresRows m written ks bs more × (rows ≡ here ++ more)

-- all rows of a projection: those of its containers, and then those in memory
abbrev pub Stores : Contents → Projected → List Stamped → Type 0
Stores m p rows = (saved : List Stamped) × StoresRows m (written_of p.entry) p.entry.containers p.beside saved × (rows ≡ saved ++ p.unsaved)

-- marks later than an epoch
abbrev pub AreLater : ℕ → List Mark → Type 0
AreLater epoch marks = (i e : ℕ) → epoch_at marks i ≡ Some e → epoch < e

-- what is in memory alone is later than an epoch
pub record IsMemoryAbove (epoch : ℕ) (p : Projected) : Type 0 where
  pub rows : All (λ s. epoch < s.ins) p.unsaved
  pub marks : All (λ b. AreLater epoch b.fresh) p.beside

-- what is kept of a container is its delete vector on the disk, and no mark came since
abbrev pub IsUnmarked : Contents → Container → Beside → Type 0
IsUnmarked m k b = HoldsVector m k b.held × (b.fresh ≡ [])

-- a projection as it was read from the disk: nothing is in memory alone
pub record IsLoaded (m : Contents) (p : Projected) : Type 0 where
  pub beside : AllZip (IsUnmarked m) p.entry.containers p.beside
  pub unsaved : p.unsaved ≡ []

-- a projection with more rows in memory
abbrev pub with_rows : List Stamped → Projected → Projected
with_rows rows p = record p { unsaved = p.unsaved ++ rows }
