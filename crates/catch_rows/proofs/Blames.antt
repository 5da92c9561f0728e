-- Faults that blame no file.
use Rattle.std.proofs.Common.{◌≡◌, true, List, Option, Some, sym, ap, ◌∙◌, subst}
use Rattle.std.specs.Bool.{OnTrue}
use Rattle.std.specs.Prelude.{Bool, false}
use Rattle.common_laws.specs.Maps.{Contents}
use Rattle.col_disk.specs.Faults.{IsUnblamed}
use Rattle.col_disk.specs.declared.disk.StoreFault.{StoreFault}
use Rattle.col_disk.specs.declared.disk.StoreFault.TheVariants as store
use Rattle.catalog_types.specs.declared.catalogue.Projection.{Projection}
use Rattle.col_value.specs.declared.row.Stamped.{Stamped}
use Rattle.proj_store.specs.Reading.{BlamesRows}
use Rattle.stored_rows.specs.Held.{Holds}
use Rattle.stored_rows.specs.Stored.{IsLoaded, Projected, Stores}
use Rattle.table_store.proofs.Unblamed.{part_unblamed}
use Rattle.catch_files.specs.Parting.{IsShort}
use Rattle.catch_rows.specs.Sharing.{ahead_fault, behind_fault}

pub behind_short : (f : StoreFault) → IsUnblamed f → IsShort (behind_fault f)
behind_short store.Disk un = tt
behind_short (store.Damaged q) un = absurd un
behind_short store.Memory un = tt

pub ahead_short : (f : StoreFault) → IsUnblamed f → IsShort (ahead_fault f)
ahead_short store.Disk un = tt
ahead_short (store.Damaged q) un = absurd un
ahead_short store.Memory un = tt

abbrev pub ReadIsStored : Type 0
ReadIsStored = (m : Contents) (p : Projected) (rows : List Stamped) → IsLoaded m p → Holds m p.entry rows → Stores m p rows

-- over an entry that was loaded, and whose rows the disk holds
pub loaded_unblamed : ReadIsStored → (m : Contents) (before now : Option Contents) (e part : Projection) (p : Projected) (rows : List Stamped) (f : StoreFault) → now ≡ before → part ≡ e → p.entry ≡ part → IsLoaded m p → before ≡ Some m → e.fresh ≡ true → Holds m e rows
    → BlamesRows p.entry now f → IsUnblamed f
loaded_unblamed stored m before now e part p rows f same part_is entry_is loaded told fresh held blames =
    let is : p.entry ≡ e = entry_is ∙ part_is in
    let up_to_date : p.entry.fresh ≡ true = ap (λ (x : Projection). x.fresh) is ∙ fresh in
    part_unblamed m now p f (same ∙ told) up_to_date (readable p.entry.fresh (rows, stored m p rows loaded (subst (λ (x : Projection). Holds m x rows) (sym is) held))) blames
  where
    readable : (b : Bool) {P : Type 0} → P → OnTrue b P
    readable true {P} x = x
    readable false {P} x = tt
