-- Which file a fault names that comes in an event of a running store.
use Rattle.std.specs.Prelude.{ℕ, ◌≡◌, Some}
use Rattle.std.specs.List.{Any}
use Rattle.common_laws.specs.Maps.{Contents}
use Rattle.catalog_root.specs.Root.{IsRoot}
use Rattle.catalog_types.specs.declared.catalogue.Catalogue.{Catalogue}
use Rattle.col_disk.specs.declared.disk.Disk.{Ghosts}
use Rattle.col_disk.specs.declared.disk.StoreFault.{StoreFault}
use Rattle.col_disk.specs.declared.disk.StoreFault.TheVariants as store
use Rattle.table_store.specs.Faults.{BlamesEntry, BlamesHeld}
use Rattle.store_query.specs.declared.fault.SelectFault.{SelectFault}
use Rattle.store_query.specs.declared.fault.SelectFault.TheVariants as select
use Rattle.store_core.specs.Running.{Running}

-- Over what the disk holds now, a Damaged names a file of a container of one of the store's projections that holds no rows, or the delete vector of
-- one that has none; no other fault says anything.
abbrev pub NamesHeld : {D : Type 0} → Ghosts D → Running → D → StoreFault → Type 0
NamesHeld disk is now fault = (m : Contents) → disk.holds now ≡ Some m → BlamesHeld is.seen.stores (Some m) fault

-- so it is of the fault of a SELECT
abbrev pub NamesRead : {D : Type 0} → Ghosts D → Running → D → SelectFault → Type 0
NamesRead disk is now select.SumOutOfRange = Unit {0}
NamesRead disk is now select.Disk = Unit {0}
NamesRead disk is now (select.Damaged q) = NamesHeld disk is now (store.Damaged q)
NamesRead disk is now select.Memory = Unit {0}

-- the contents open to a root that lists a projection, and the file is one of that and bad there
pub record ListsBad (q : ℕ) (m : Contents) : Type 0 where
  pub version : ℕ
  pub catalogue : Catalogue
  pub root : IsRoot m version catalogue
  pub blamed : Any (λ t. Any (λ p. BlamesEntry p (Some m) (store.Damaged q)) t.projections) catalogue.tables

-- so do those that the disk holds now
abbrev pub NamesListed : {D : Type 0} → Ghosts D → ℕ → D → Type 0
NamesListed disk q now = (m : Contents) → disk.holds now ≡ Some m → ListsBad q m
