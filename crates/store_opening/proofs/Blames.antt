-- Which file is blamed where a projection among others can't be read.
use Rattle.std.proofs.Common.{◌≡◌, ℕ, ◌<◌, List, length, get_or, true, sym, subst, inr}
use Rattle.std.specs.Prelude.{Option}
use Rattle.common_laws.specs.Maps.{Contents}
use Rattle.col_disk.specs.declared.disk.DiskFault as disk
use Rattle.col_disk.specs.declared.disk.DiskFault.TheVariants as cause
use Rattle.col_disk.specs.declared.disk.StoreFault.{StoreFault}
use Rattle.col_disk.specs.declared.disk.StoreFault.TheVariants.{Disk, Damaged, Memory}
use Rattle.col_disk.specs.Faults.{store_fault}
use Rattle.catalog_types.specs.declared.catalogue.Projection.{Projection}
use Rattle.catalog_types.specs.declared.catalogue.Table.{Table}
use Rattle.catalog_types.specs.declared.catalogue.Catalogue.{Catalogue}
use Rattle.proj_store.specs.Reading.{BlamesLoad}
use Rattle.store_opening.specs.Loading.{BlamesEntries, BlamesTables}
use Rattle.catalog_types.specs.Reached.{is_past, least_lge}
use Rattle.cut_job.specs.Blamed as cut
use Rattle.store_opening.specs.Opening.{BlamesListed, WhereBlamedAt}

pub entry_blamed : (es : List Projection) (i : ℕ) (e : Projection) (holds now : Option Contents) (fault : StoreFault) → i < length es → e ≡ get_or es i e → now ≡ holds
    → BlamesLoad e.containers now fault → BlamesEntries es holds fault
entry_blamed es i e holds now (Damaged q) lt is same blamed = (i, e, lt, sym is, subst (λ (h : Option Contents). BlamesLoad e.containers h (Damaged q)) same blamed)
entry_blamed es i e holds now Disk lt is same blamed = tt
entry_blamed es i e holds now Memory lt is same blamed = tt

pub table_blamed : (ts : List Table) (i : ℕ) (t : Table) (ps : List Projection) (holds now : Option Contents) (fault : StoreFault) → i < length ts → t ≡ get_or ts i t → ps ≡ t.projections → now ≡ holds
    → BlamesEntries ps now fault → BlamesTables ts holds fault
table_blamed ts i t ps holds now (Damaged q) lt is of_table same blamed =
    (i, t, lt, sym is, subst (λ (xs : List Projection). BlamesEntries xs holds (Damaged q)) of_table (subst (λ (h : Option Contents). BlamesEntries ps h (Damaged q)) same blamed))
table_blamed ts i t ps holds now Disk lt is of_table same blamed = tt
table_blamed ts i t ps holds now Memory lt is of_table same blamed = tt

-- nothing is said of a fault of the disk
pub fault_blamed : (Fact : ℕ → Type 0) (fault : disk.DiskFault) (is : StoreFault) → is ≡ store_fault fault → WhereBlamedAt Fact is
fault_blamed Fact cause.Failed is same = subst (WhereBlamedAt Fact) (sym same) tt
fault_blamed Fact cause.Memory is same = subst (WhereBlamedAt Fact) (sym same) tt

pub blamed_wider : (P Q : ℕ → Type 0) (fault : StoreFault) → ((q : ℕ) → P q → Q q) → WhereBlamedAt P fault → WhereBlamedAt Q fault
blamed_wider P Q (Damaged q) h blamed = h q blamed
blamed_wider P Q Disk h blamed = tt
blamed_wider P Q Memory h blamed = tt

-- a file of a container that is cut
pub cut_blamed : (c : Catalogue) (holds : Option Contents) (fault : StoreFault) → is_past c (least_lge c) ≡ true → cut.BlamesInTables c.tables holds fault → BlamesListed c holds fault
cut_blamed c holds (Damaged q) past blamed = inr (inr (past, blamed))
cut_blamed c holds Disk past blamed = tt
cut_blamed c holds Memory past blamed = tt
