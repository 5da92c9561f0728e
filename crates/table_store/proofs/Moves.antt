-- Which file is blamed where a projection that was moved out can't be read again.
use Rattle.std.proofs.Common.{◌≡◌, ℕ, zero, suc, ◌<◌, List, [], ◌∷◌, length, map, get_or, refl, sym, ◌∙◌, ap, subst, inr, arith}
use Rattle.std.specs.Prelude.{Option, Some, IsSomeAnd}
use Rattle.std.specs.List.{All, Any, slice_get}
use Rattle.std.proofs.lemmas.List.{get_or-map, length-map}
use Rattle.common_laws.specs.Maps.{Contents}
use Rattle.col_disk.specs.Faults.{store_fault}
use Rattle.col_disk.specs.declared.disk.DiskFault.{DiskFault}
use Rattle.col_disk.specs.declared.disk.DiskFault.TheVariants as disk_fault
use Rattle.col_disk.specs.declared.disk.StoreFault.{StoreFault}
use Rattle.col_disk.specs.declared.disk.StoreFault.TheVariants.{Disk, Damaged, Memory}
use Rattle.catalog_types.specs.declared.catalogue.Container.{Container}
use Rattle.catalog_types.specs.declared.catalogue.Projection.{Projection}
use Rattle.stored_rows.specs.Stored.{Projected}
use Rattle.proj_store.specs.Loaded.{Loaded}
use Rattle.proj_store.specs.Reading.{BlamesLoad}
use Rattle.moveout_job.specs.OnDisk.{IsKeptOrHasVector}
use Rattle.moveout_job.proofs.Vectors.{kept_blamed}
use Rattle.table_store.specs.Faults.{BlamesEntry, BlamesHeld, BlamesVectors, BlamesVectorsAt}
use Rattle.table_store.specs.Held.{projections_of}
use Rattle.table_store.specs.Moving.{IsFreshAt}
use Rattle.table_store.proofs.Drained.{at_weaker, AtPlace}
use Rattle.table_store.proofs.Moved.{fresh_place, fresh_table}

-- ---- a fault of the disk names no file

pub disk_loads : (ks : List Container) (holds : Option Contents) (f : DiskFault) → BlamesLoad ks holds (store_fault f)
disk_loads ks holds disk_fault.Failed = tt
disk_loads ks holds disk_fault.Memory = tt

pub disk_at : (pss : List (List Projected)) (i j : ℕ) (m : Contents) (f : DiskFault) → BlamesVectorsAt pss i j m (store_fault f)
disk_at pss i j m disk_fault.Failed = tt
disk_at pss i j m disk_fault.Memory = tt

pub disk_any : (pss : List (List Projected)) (m : Contents) (f : DiskFault) → BlamesVectors pss m (store_fault f)
disk_any pss m disk_fault.Failed = tt
disk_any pss m disk_fault.Memory = tt

pub disk_held : (pss : List (List Projected)) (holds : Option Contents) (f : DiskFault) → BlamesHeld pss holds (store_fault f)
disk_held pss holds disk_fault.Failed = tt
disk_held pss holds disk_fault.Memory = tt

-- what was written is read again
pub written_blamed : (after : ℕ) (p : Projected) (entry copy : Projection) (mid new : Option Contents) (f : StoreFault) → ((m : Contents) → mid ≡ Some m → All (IsKeptOrHasVector after m p.entry.containers) entry.containers) → copy ≡ entry
    → BlamesLoad copy.containers mid f → new ≡ mid → (m : Contents) → new ≡ Some m → BlamesLoad p.entry.containers (Some m) f
written_blamed after p entry copy mid new f kept copied blames same m told =
    let held : mid ≡ Some m = sym same ∙ told in
    kept_blamed after m p.entry.containers entry.containers f (kept m held) (subst (λ (e : Projection). BlamesLoad e.containers (Some m) f) copied (subst (λ (h : Option Contents). BlamesLoad copy.containers h f) held blames))

-- ---- where the projection stands

some_here : {X : Type 0} (P : X → Type 0) (xs : List X) (i : ℕ) (x : X) → i < length xs → x ≡ get_or xs i x → P x → IsSomeAnd (slice_get xs i) P
some_here P [] i x lt is has = absurd (omega (arith, lt))
some_here P (y ∷ xs) zero x lt is has = subst P is has
some_here P (y ∷ xs) (suc i) x lt is has = some_here P xs i x (omega (arith, lt)) is has

pub moved_blamed : (tables : List (List Loaded)) (i j : ℕ) (ps : List Loaded) (p : Loaded) (m : Contents) (f : StoreFault) → IsFreshAt (map projections_of tables) i j → ps ≡ get_or tables i ps → p ≡ get_or ps j p
    → BlamesLoad p.stored.entry.containers (Some m) f → BlamesVectorsAt (map projections_of tables) i j m f
moved_blamed tables i j ps p m Disk fresh ps_are p_is blames = tt
moved_blamed tables i j ps p m Memory fresh ps_are p_is blames = tt
moved_blamed tables i j ps p m (Damaged q) fresh ps_are p_is blames =
    let lt : i < length tables = fresh_table tables i j fresh in
    let below : j < length ps = fresh_place tables i j ps ps_are fresh in
    let long : i < length (map projections_of tables) = omega (arith, lt, length-map tables projections_of) in
    let wide : j < length (projections_of ps) = omega (arith, below, length-map ps (λ (x : Loaded). x.stored)) in
    let parts_are : projections_of ps ≡ get_or (map projections_of tables) i (projections_of ps) = ap projections_of ps_are ∙ sym (get_or-map projections_of tables i ps (projections_of ps) lt) in
    let stored_is : p.stored ≡ get_or (projections_of ps) j p.stored = ap (λ (x : Loaded). x.stored) p_is ∙ sym (get_or-map (λ (x : Loaded). x.stored) ps j p p.stored below) in
    some_here (λ qs. IsSomeAnd (slice_get qs j) (λ x. BlamesLoad x.entry.containers (Some m) (Damaged q))) (map projections_of tables) i (projections_of ps) long parts_are
    (some_here (λ x. BlamesLoad x.entry.containers (Some m) (Damaged q)) (projections_of ps) j p.stored wide stored_is blames)

any_slice : {X : Type 0} (P : X → Type 0) (xs : List X) (i : ℕ) → IsSomeAnd (slice_get xs i) P → Any P xs
any_slice P [] i is = absurd is
any_slice P (x ∷ xs) zero is = (zero, x, omega arith, refl, is)
any_slice P (x ∷ xs) (suc i) is = let (j, y, lt, same, has) = any_slice P xs i is in (suc j, y, omega (arith, lt), same, has)

pub any_blamed : (pss : List (List Projected)) (i j : ℕ) (m : Contents) (f : StoreFault) → BlamesVectorsAt pss i j m f → BlamesVectors pss m f
any_blamed pss i j m (Damaged q) blames =
    let (k, ps, lt, is, inner) = any_slice (λ ps. IsSomeAnd (slice_get ps j) (λ p. BlamesLoad p.entry.containers (Some m) (Damaged q))) pss i blames in
    (k, ps, lt, is, any_slice (λ p. BlamesLoad p.entry.containers (Some m) (Damaged q)) ps j inner)
any_blamed pss i j m Disk blames = tt
any_blamed pss i j m Memory blames = tt

pub drained_blamed : (pss : List (List Projected)) (i j : ℕ) (p : Projected) (m : Contents) (f : StoreFault) → AtPlace pss i j (λ q. p ≡ q) → BlamesLoad p.entry.containers (Some m) f → BlamesVectors pss m f
drained_blamed pss i j p m (Damaged q) at blames =
    any_blamed pss i j m (Damaged q)
    (at_weaker pss i j (λ x. p ≡ x) (λ x. BlamesLoad x.entry.containers (Some m) (Damaged q)) (λ x is. subst (λ (y : Projected). BlamesLoad y.entry.containers (Some m) (Damaged q)) is blames) at)
drained_blamed pss i j p m Disk at blames = tt
drained_blamed pss i j p m Memory at blames = tt

-- ---- a file of a projection of the store

pub vectors_held : (pss : List (List Projected)) (m : Contents) (f : StoreFault) → BlamesVectors pss m f → BlamesHeld pss (Some m) f
vectors_held pss m (Damaged q) (i, ps, lt, is, (j, p, below, same, blames)) = (i, ps, lt, is, (j, p, below, same, inr blames))
vectors_held pss m Disk blames = tt
vectors_held pss m Memory blames = tt

pub entry_held : (pss : List (List Projected)) (i j : ℕ) (p : Projected) (m : Contents) (f : StoreFault) → AtPlace pss i j (λ q. q ≡ p) → BlamesEntry p.entry (Some m) f → BlamesHeld pss (Some m) f
entry_held pss i j p m (Damaged q) at blames =
    let here = at_weaker pss i j (λ x. x ≡ p) (λ x. BlamesEntry x.entry (Some m) (Damaged q)) (λ x is. subst (λ (y : Projected). BlamesEntry y.entry (Some m) (Damaged q)) (sym is) blames) at in
    let (k, ps, lt, is, inner) = any_slice (λ ps. IsSomeAnd (slice_get ps j) (λ x. BlamesEntry x.entry (Some m) (Damaged q))) pss i here in
    (k, ps, lt, is, any_slice (λ x. BlamesEntry x.entry (Some m) (Damaged q)) ps j inner)
entry_held pss i j p m Disk at blames = tt
entry_held pss i j p m Memory at blames = tt
