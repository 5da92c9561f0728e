-- The entry of a projection that was purged, and what it holds.
use Rattle.std.proofs.Common.{◌≡◌, ◌+◌, ◌*◌, ◌<◌, ◌≤◌, ◌++◌, ℕ, List, [], ◌∷◌, length, max, sym, ◌∙◌, ap, subst, arith}
use Rattle.std.specs.Prelude.{Option, Some, None, IfSome}
use Rattle.std.specs.List.{All}
use Rattle.std.proofs.lemmas.List.{length-append}
use Rattle.std.proofs.lemmas.List.Elements.{All-weaker, filter-append}
use Rattle.common_laws.specs.Bags.{SameBag}
use Rattle.common_laws.specs.Maps.{Contents}
use Rattle.common_laws.proofs.BagLaws.{bag_append, bag_sym}
use Rattle.col_disk.specs.Moved.{Moved, NoName}
use Rattle.col_disk.specs.declared.disk.Disk.{Ghosts}
use Rattle.col_disk.specs.declared.disk.DiskFault.{DiskFault}
use Rattle.col_disk.specs.declared.disk.DiskFault.TheVariants as disk_fault
use Rattle.col_disk.specs.Faults.{store_fault}
use Rattle.col_value.specs.declared.row.Stamped.{Stamped}
use Rattle.row_history.specs.History.{is_retained, retained}
use Rattle.row_history.proofs.Histories.{bag_retained, retained_later}
use Rattle.catalog_types.specs.declared.catalogue.Container.{Container}
use Rattle.catalog_types.specs.declared.catalogue.Projection.{Projection}
use Rattle.ros_container.specs.Encodings.{written_of}
use Rattle.ros_container.specs.Readable.{IsReadable}
use Rattle.stored_rows.specs.Held.{Holds}
use Rattle.stored_rows.specs.Stored.{Projected}
use Rattle.proj_store.specs.Sound.{HasVectorNumber, IsLoadable}
use Rattle.container_writer.specs.Writing.{listed, HoldsBag, DataFrom, AreNumbered}
use Rattle.container_cut.specs.Blamed.{BlamesProjection}
use Rattle.merge_rows.specs.Inputs.{KeepsFrom}
use Rattle.merge_rows.specs.Rewritten.{reached_by}
use Rattle.moveout_job.specs.OnDisk.{IsListedBelow}
use Rattle.moveout_job.proofs.Assembled.{all_listed, made_each, short}
use Rattle.moveout_job.proofs.Renewed.{between, rows_below, rows_join}
use Rattle.purge_job.specs.Purging.{CanLoad, IsPurged, Purges, PurgesEach, purged_to}

pub of_entry : (js : List Container) (memory : Option Container) (shown old new : Projection) → new ≡ purged_to js memory shown → shown ≡ old → new ≡ purged_to js memory old
of_entry js memory shown old new is same = is ∙ ap (purged_to js memory) same

pub purges : {D : Type 0} (disk : Ghosts D) {old mid new : D} (mark next after : ℕ) (p : Projected) (entry : Projection) (js : List Container) (memory : Option Container) (rows : List Stamped)
    → entry ≡ purged_to js memory p.entry → PurgesEach mark (written_of p.entry) next after p.entry.containers p.beside js (disk.holds old) (disk.holds mid) → Moved disk (DataFrom after) NoName mid new
    → ((m : Contents) → disk.holds new ≡ Some m → HoldsBag m (written_of p.entry) (listed memory) rows) → rows ≡ retained mark p.unsaved
    → (m n : Contents) → disk.holds old ≡ Some m → disk.holds new ≡ Some n → IsListedBelow next p.entry → Purges mark m n p entry
purges disk mark next after p entry js memory rows is each second bag are m n told left below stored (saved, stores, stored_is) =
    let es = written_of p.entry in
    let (l, told_l, has) = each m saved told below stores in
    let kept = rows_below l n es js has.held after has.below (between disk l n told_l left second) has.are in
    let (more, holds_more, same) = bag n left in
    let all : retained mark saved ++ retained mark p.unsaved ≡ retained mark stored = sym (filter-append (is_retained mark) saved p.unsaved) ∙ ap (retained mark) (sym stored_is) in (
      has.held ++ more,
      subst (λ (e : Projection). Holds n e (has.held ++ more)) (sym is) (rows_join n es js (listed memory) has.held more kept holds_more),
      subst (SameBag (has.held ++ more)) all (bag_append has.held more (retained mark saved) (retained mark p.unsaved) has.bag (subst (SameBag more) are (bag_sym rows more same))),
    )

pub keeps_from : (mark : ℕ) (m n : Contents) (p : Projected) (entry : Projection) → Purges mark m n p entry → KeepsFrom mark m n p entry
keeps_from mark m n p entry purged stored stores =
    let (held, holds, same) = purged stored stores in
    (held, holds, subst (SameBag (retained mark held)) (retained_later mark mark stored (omega arith)) (bag_retained mark held (retained mark stored) same))

pub loads : (mid after : ℕ) (old new : Projection) (js : List Container) (memory : Option Container) → new ≡ purged_to js memory old → IsLoadable old → All (CanLoad old.columns) js → AreNumbered (length old.columns) mid after memory → IsLoadable new
loads mid after old new js memory is loadable each numbers =
    let low = made_each old.columns mid after memory numbers in
    subst IsLoadable (sym is) (record {
      files = all_listed (IsReadable old.columns) js memory (All-weaker (CanLoad old.columns) (IsReadable old.columns) (λ k can. can.files) js each) low.0;
      vectors = all_listed HasVectorNumber js memory (All-weaker (CanLoad old.columns) HasVectorNumber (λ k can. can.vector) js each) low.1;
      sort = loadable.sort;
    })

pub counts : (old new : Projection) (js : List Container) (memory : Option Container) → new ≡ purged_to js memory old → length js ≤ length old.containers → length new.containers ≤ length old.containers + 1
counts old new js memory is fewer =
    let all = ap (λ (e : Projection). length e.containers) is in
    let parts = length-append js (listed memory) in
    let one = short memory in
    omega (arith, all, parts, fewer, one)

reached_later : (epoch : ℕ) (ks : List Container) → epoch ≤ reached_by epoch ks
reached_later epoch [] = omega arith
reached_later epoch (k ∷ ks) = let rest = reached_later (max (max epoch k.greatest_epoch) k.greatest_mark) ks in omega (arith, rest)

pub reaches : (old new : Projection) (js : List Container) (memory : Option Container) → new ≡ purged_to js memory old → old.lge ≤ new.lge
reaches old new js memory is = let all = ap (λ (e : Projection). e.lge) is in let later = reached_later old.lge (js ++ listed memory) in omega (arith, all, later)

pub is_purged : (next mid after : ℕ) (old new : Projection) (js : List Container) (memory : Option Container) → new ≡ purged_to js memory old → next ≤ mid → length js ≤ length old.containers → AreNumbered (length old.columns) mid after memory
    → IfSome memory (λ k. k.level ≡ 0) → IsPurged next after old new
is_purged next mid after old new js memory is later fewer numbers level = record { containers = js; memory = memory; mid = mid; later = later; fewer = fewer; numbers = numbers; level = level; is = is }

-- a fault of the disk blames no file
pub fault_blames : (p : Projection) (holds : Option Contents) (f : DiskFault) → BlamesProjection p holds (store_fault f)
fault_blames p holds disk_fault.Failed = tt
fault_blames p holds disk_fault.Memory = tt
