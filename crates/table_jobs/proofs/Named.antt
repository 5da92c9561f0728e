-- Which file a fault names, over what the disk holds behind a job.
use Rattle.std.proofs.Common.{◌≡◌, ◌+◌, ◌<◌, ℕ, List, [], sym, ◌∙◌, subst, inl, inr, arith}
use Rattle.std.specs.Prelude.{Option, Some, None, IfSome}
use Rattle.std.specs.FinMap.{get}
use Rattle.std.specs.List.{All, Any}
use Rattle.std.proofs.lemmas.List.Elements.{All-contains, All-weaker}
use Rattle.common_laws.specs.Maps.{Contents}
use Rattle.col_disk.specs.Faults.{store_fault, IsUnblamed}
use Rattle.col_disk.specs.Moved.{Changed, Moved, NoName}
use Rattle.col_disk.specs.declared.disk.Disk.{Ghosts}
use Rattle.col_disk.specs.declared.disk.DiskFault.{DiskFault}
use Rattle.col_disk.specs.declared.disk.DiskFault.TheVariants as disk_fault
use Rattle.col_disk.specs.declared.disk.StoreFault.{StoreFault}
use Rattle.col_disk.specs.declared.disk.StoreFault.TheVariants.{Disk, Damaged, Memory}
use Rattle.catalog_types.specs.declared.catalogue.Container.{Container}
use Rattle.catalog_types.specs.declared.catalogue.Projection.{Projection}
use Rattle.stored_rows.specs.Listed.{IsVectorFile, SameFiles}
use Rattle.stored_rows.specs.Stored.{Projected}
use Rattle.container_writer.specs.Writing.{DataFrom}
use Rattle.container_cut.specs.Blamed.{BlamesProjection, IsBadFile}
use Rattle.container_cut.proofs.Bad.{bad_back}
use Rattle.container_cut.proofs.Below.{below_data}
use Rattle.proj_store.specs.Reading.{BlamesLoad, BlamesRows}
use Rattle.moveout_job.specs.OnDisk.{HasVectorBelow, IsBelow, IsKeptOrHasVector, IsListedBelow}
use Rattle.moveout_job.proofs.Vectors.{kept_blamed, moved_back}
use Rattle.table_store.specs.Faults.{BlamesEntry, BlamesHeld}

-- ---- files that stay

vector_stays : (m n : Contents) (next : ℕ) (o : Option ℕ) → Changed (DataFrom next) NoName m n → IfSome o (λ v. v < next) → (q : ℕ) → IsVectorFile o q → get m q ≡ get n q
vector_stays m n next None changed low q is = absurd is
vector_stays m n next (Some v) changed low q is = subst (λ (x : ℕ). get m x ≡ get n x) (sym is) (sym (below_data m n next changed v low))

files_stay : (m n : Contents) (next : ℕ) (k : Container) → Changed (DataFrom next) NoName m n → IsBelow next k → SameFiles n m k
files_stay m n next k changed below q (inl (j, small, is)) =
    let end = below.files in subst (λ (x : ℕ). get m x ≡ get n x) (sym is) (sym (below_data m n next changed (k.base + j) (omega (arith, small, end))))
files_stay m n next k changed below q (inr is) = vector_stays m n next k.marks changed below.vector q is

-- ---- a bad file stays one

entry_blamed : (p : Projection) (m : Contents) (q : ℕ) → Any (IsBadFile p m q) p.containers → BlamesEntry p (Some m) (Damaged q)
entry_blamed p m q (i, k, lt, is, inl rows) = inl (i, k, lt, is, rows)
entry_blamed p m q (i, k, lt, is, inr vector) = inr (i, k, lt, is, vector)

bad_later : (m n : Contents) (next q : ℕ) (p : Projection) → IsListedBelow next p → Changed (DataFrom next) NoName m n → Any (IsBadFile p m q) p.containers → BlamesEntry p (Some n) (Damaged q)
bad_later m n next q p below changed (i, k, lt, is, bad) =
    let low : IsBelow next k = All-contains (IsBelow next) p.containers k below (i, lt, is) in
    entry_blamed p n q (i, k, lt, is, bad_back p n m q k (files_stay m n next k changed low) bad)

rows_bad : (p : Projection) (m : Contents) (q : ℕ) → BlamesRows p (Some m) (Damaged q) → Any (IsBadFile p m q) p.containers
rows_bad p m q (i, k, lt, is, rows) = (i, k, lt, is, inl rows)

-- what was read before files of later numbers were written
pub rows_named : {D : Type 0} (disk : Ghosts D) {old new : D} (p : Projection) (next : ℕ) (f : StoreFault) → IsListedBelow next p → Moved disk (DataFrom next) NoName old new → BlamesRows p (disk.holds old) f
    → (m : Contents) → disk.holds new ≡ Some m → BlamesEntry p (Some m) f
rows_named disk p next (Damaged q) below moved blames m told =
    let (l, told_l, changed) = moved_back disk {W = DataFrom next} {R = NoName} m told moved in
    bad_later l m next q p below changed (rows_bad p l q (subst (λ (h : Option Contents). BlamesRows p h (Damaged q)) told_l blames))
rows_named disk p next Disk below moved blames m told = tt
rows_named disk p next Memory below moved blames m told = tt

pub damage_named : {D : Type 0} (disk : Ghosts D) {old new : D} (p : Projection) (next : ℕ) (f : StoreFault) → IsListedBelow next p → Moved disk (DataFrom next) NoName old new → BlamesProjection p (disk.holds old) f
    → (m : Contents) → disk.holds new ≡ Some m → BlamesEntry p (Some m) f
damage_named disk p next (Damaged q) below moved blames m told =
    let (l, told_l, changed) = moved_back disk {W = DataFrom next} {R = NoName} m told moved in
    let (i, k, lt, is, damage) = blames l told_l in
    bad_later l m next q p below changed (i, k, lt, is, damage.bad)
damage_named disk p next Disk below moved blames m told = tt
damage_named disk p next Memory below moved blames m told = tt

pub disk_named : (p : Projection) (holds : Option Contents) (f : DiskFault) → BlamesEntry p holds (store_fault f)
disk_named p holds disk_fault.Failed = tt
disk_named p holds disk_fault.Memory = tt

-- ---- the entry that was made is read

-- where it is to blame nothing was written since
pub install_named : {D : Type 0} (disk : Ghosts D) {old mid new : D} (p : Projection) (next : ℕ) (f : StoreFault) → IsListedBelow next p → Moved disk (DataFrom next) NoName old mid → BlamesProjection p (disk.holds old) f
    → ((IsUnblamed f → ⊥) → disk.holds new ≡ disk.holds mid) → (m : Contents) → disk.holds new ≡ Some m → BlamesEntry p (Some m) f
install_named disk p next (Damaged q) below moved blames still m told = damage_named disk p next (Damaged q) below moved blames m (sym (still (λ none. none)) ∙ told)
install_named disk p next Disk below moved blames still m told = tt
install_named disk p next Memory below moved blames still m told = tt

none_of_none : {X : Type 0} (P : X → Type 0) → Any P [] → ⊥
none_of_none P (i, x, lt, is, has) = absurd (omega (arith, lt))

-- each of its containers has its delete vector
pub made_named : {D : Type 0} (disk : Ghosts D) {mid new : D} (after : ℕ) (ks : List Container) (stores : List (List Projected)) (f : StoreFault) → ((n : Contents) → disk.holds mid ≡ Some n → All (HasVectorBelow after n) ks)
    → BlamesLoad ks (disk.holds mid) f → ((IsUnblamed f → ⊥) → disk.holds new ≡ disk.holds mid) → (m : Contents) → disk.holds new ≡ Some m → BlamesHeld stores (Some m) f
made_named disk after ks stores (Damaged q) vectors blames still m told =
    let there = sym (still (λ none. none)) ∙ told in
    let kept : All (IsKeptOrHasVector after m []) ks = All-weaker (HasVectorBelow after m) (IsKeptOrHasVector after m []) (λ k has. inr has) ks (vectors m there) in
    absurd (none_of_none _ (kept_blamed after m [] ks (Damaged q) kept (subst (λ (h : Option Contents). BlamesLoad ks h (Damaged q)) there blames)))
made_named disk after ks stores Disk vectors blames still m told = tt
made_named disk after ks stores Memory vectors blames still m told = tt
