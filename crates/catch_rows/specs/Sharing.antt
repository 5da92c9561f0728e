-- What a table tells in two stores, but for what both hold in the same files.
use Rattle.std.specs.Prelude.{ℕ, ◌≡◌, ◌≤◌, ◌++◌, true, List, [], length, map, Option, Some, IsSomeAnd}
use Rattle.std.specs.List.{slice_get, All}
use Rattle.common_laws.specs.Bags.{SameBag}
use Rattle.common_laws.specs.Maps.{Contents}
use Rattle.col_disk.specs.declared.disk.StoreFault.{StoreFault}
use Rattle.col_disk.specs.declared.disk.StoreFault.TheVariants as store
use Rattle.col_value.specs.declared.row.Stamped.{Stamped}
use Rattle.row_history.specs.History.{retained}
use Rattle.catalog_types.specs.declared.catalogue.Container.{Container}
use Rattle.catalog_types.specs.declared.catalogue.Projection.{Projection}
use Rattle.catalog_types.specs.declared.catalogue.Table as kept
use Rattle.db_model.specs.Database.{Database}
use Rattle.stored_rows.specs.Held.{Holds}
use Rattle.stored_rows.specs.Stored.{Projected}
use Rattle.proj_store.specs.Loaded.{Loaded}
use Rattle.store_commit.specs.Seen.{Seen}
use Rattle.row_matching.specs.Keeping.{history, KeepsAll}
use Rattle.row_matching.specs.Seeing.{IsSource}
use Rattle.catch_model.specs.declared.fault.LinkFault.{LinkFault}
use Rattle.catch_model.specs.declared.fault.LinkFault.TheVariants.{BehindDisk, AheadDisk, Damaged, Memory}
use Rattle.catch_files.specs.Parting.{AreParted, IsShort}

-- what a fault of the store behind is
abbrev pub behind_fault : StoreFault → LinkFault
behind_fault store.Disk = BehindDisk
behind_fault (store.Damaged name) = Damaged name
behind_fault store.Memory = Memory

-- what a fault of the store ahead is
abbrev pub ahead_fault : StoreFault → LinkFault
ahead_fault store.Disk = AheadDisk
ahead_fault (store.Damaged name) = Damaged name
ahead_fault store.Memory = Memory

-- ---- rows

-- From a mark on the rows of two tables are some that both have, and the rest of each.
pub record SharesRows (mark : ℕ) (old new behind ahead : List Stamped) : Type 0 where
  pub common : List Stamped
  pub first : SameBag (common ++ behind) (retained mark old)
  pub second : SameBag (common ++ ahead) (retained mark new)

-- the same of the tables at a place in two databases
abbrev pub ShareAt : ℕ → ℕ → List Stamped → List Stamped → Database → Database → Type 0
ShareAt mark place behind ahead a b =
    a.ahm ≤ mark → b.ahm ≤ mark → IsSomeAnd (slice_get a.tables place) (λ t. IsSomeAnd (slice_get b.tables place) (λ u. SharesRows mark t.rows u.rows behind ahead))

-- ---- projections

-- no mark of a container is in memory alone
abbrev pub HasNoMarks : Projected → Type 0
HasNoMarks p = All (λ b. b.fresh ≡ []) p.beside

-- nothing of a projection is in memory alone
pub record HasAllOnDisk (p : Projected) : Type 0 where
  pub unsaved : p.unsaved ≡ []
  pub marks : HasNoMarks p

-- a projection that is up to date has the columns of another one, and nothing of them is in memory alone
pub record IsAlike (p q : Projected) : Type 0 where
  pub fresh : q.entry.fresh ≡ true
  pub columns : p.entry.columns ≡ q.entry.columns
  pub first : HasAllOnDisk p
  pub second : HasAllOnDisk q

-- a projection with some containers
abbrev pub with_containers : List Container → Projection → Projection
with_containers ks p = record p { containers = ks }

-- A projection stands at a place of a store's table.
pub record IsPart (s : Seen) (table : ℕ) (t : kept.Table) (p : Loaded) : Type 0 where
  pub parts : List Loaded
  pub place : ℕ
  pub table_is : slice_get s.catalogue.tables table ≡ Some t
  pub parts_are : slice_get s.stores table ≡ Some (map (λ x. x.stored) parts)
  pub is : slice_get parts place ≡ Some p

-- Two projections of a table in two stores are alike, and both have all its columns at these places.
pub record IsPair (r s : Seen) (table : ℕ) (places : List (Option ℕ)) (p q : Loaded) : Type 0 where
  pub old : kept.Table
  pub new : kept.Table
  pub first : IsPart r table old p
  pub second : IsPart s table new q
  pub many : length new.columns ≡ length old.columns
  pub source : IsSource (length old.columns) places p.stored
  pub alike : IsAlike p.stored q.stored

-- a store has so many columns at the place of a table, and these projections
pub record HasParts (s : Seen) (table columns : ℕ) (parts : List Loaded) : Type 0 where
  pub t : kept.Table
  pub is : slice_get s.catalogue.tables table ≡ Some t
  pub many : length t.columns ≡ columns
  pub parts_are : slice_get s.stores table ≡ Some (map (λ p. p.stored) parts)

-- two of the projections of tables with so many columns are alike, and have them all at these places
pub record IsPairIn (old new : ℕ) (first second : List Loaded) (places : List (Option ℕ)) (p q : Loaded) : Type 0 where
  pub many : new ≡ old
  pub place : ℕ
  pub other : ℕ
  pub is : slice_get first place ≡ Some p
  pub other_is : slice_get second other ≡ Some q
  pub source : IsSource old places p.stored
  pub alike : IsAlike p.stored q.stored

-- over an entry's rows that a disk holds, a fault is no blame
abbrev pub ShortOver : Option Contents → Projection → LinkFault → Type 0
ShortOver holds p fault = (m : Contents) (rows : List Stamped) → holds ≡ Some m → p.fresh ≡ true → Holds m p rows → IsShort fault

-- the same of two entries, whose containers may be parted
abbrev pub ShortOverBoth : Option Contents → Option Contents → Projection → Projection → LinkFault → Type 0
ShortOverBoth at from p q fault =
    (m n : Contents) (xs ys : List Stamped) → at ≡ Some m → from ≡ Some n → p.fresh ≡ true → q.fresh ≡ true → Holds m p xs → Holds n q ys → IsShort fault

-- these are the retained rows of an entry's containers, with the columns of the table, where the disk tells its contents
abbrev pub IsRestOf : Option Contents → ℕ → List (Option ℕ) → Projection → List Stamped → Type 0
IsRestOf holds mark places p out = (m : Contents) → holds ≡ Some m → (rows : List Stamped) × Holds m p rows × KeepsAll (history mark places rows) [] out

-- what is left of what two projections hold, with the columns of their table, where both disks tell their contents
pub record AreRests (at from : Option Contents) (mark : ℕ) (places : List (Option ℕ)) (p q : Projected) (behind ahead : List Stamped) : Type 0 where
  pub ks : List Container
  pub js : List Container
  pub parted : AreParted at from p.entry.containers q.entry.containers ks js
  pub first : IsRestOf at mark places (with_containers ks p.entry) behind
  pub second : IsRestOf from mark places (with_containers js q.entry) ahead
