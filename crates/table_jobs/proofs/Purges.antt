-- The purge of a projection that is up to date.
use Rattle.std.proofs.Common.{◌≡◌, ℕ, zero, suc, ◌+◌, ◌*◌, ◌≤◌, ◌++◌, true, List, [], ◌∷◌, length, refl, sym, ap, subst, arith}
use Rattle.std.specs.Prelude.{Result, Ok, Err, OnOk}
use Rattle.std.specs.List.{Any}
use Rattle.std.proofs.lemmas.List.{append-nil}
use Rattle.common_laws.specs.Maps.{Contents}
use Rattle.col_disk.specs.Faults.{IsUnblamed}
use Rattle.col_disk.specs.declared.disk.Disk.{Ghosts}
use Rattle.col_disk.specs.declared.disk.StoreFault.{StoreFault}
use Rattle.col_disk.specs.declared.disk.StoreFault.TheVariants as fault
use Rattle.catalog_types.specs.declared.catalogue.Catalogue.{Catalogue}
use Rattle.catalog_types.specs.declared.catalogue.Container.{Container}
use Rattle.catalog_types.specs.declared.catalogue.Projection.{Projection}
use Rattle.col_value.specs.declared.row.Stamped.{Stamped}
use Rattle.ros_container.specs.Encodings.{written_of}
use Rattle.del_vector.specs.Marks.{epoch_at}
use Rattle.stored_rows.specs.Held.{HoldsRows, stamped_from}
use Rattle.stored_rows.specs.Stored.{Beside, Projected, StoresRows}
use Rattle.container_writer.specs.Writing.{listed}
use Rattle.container_cut.specs.Blamed.{BlamesProjection, IsDamageOf}
use Rattle.purge_job.specs.Purging.{IsPurged}
use Rattle.merge_rows.specs.Rewritten.{reached_by}
use Rattle.db_model.specs.Database.{Database}
use Rattle.store_commit.specs.Seen.{Seen, Stands}
use Rattle.table_store.specs.Installing.{IsRenewal}
use Rattle.table_store.specs.Moving.{with_entry_at}
use Rattle.table_jobs.specs.Jobs.{DrawsAnew}
use Rattle.table_jobs.proofs.Holding.{IsOwnAt, own_history, own_stores, renewal_of}

pub purged_renewal : (next after : ℕ) (old new : Projection) → IsPurged next after old new → IsRenewal old new
purged_renewal next after old new is =
    renewal_of old new (reached_by old.lge (is.containers ++ listed is.memory)) (old.born + length (listed is.memory)) (is.containers ++ listed is.memory) is.is

-- ---- what is read

-- where a projection stores rows, no container of it holds none
undamaged : (m : Contents) (p : Projection) (q : ℕ) (ks : List Container) (bs : List Beside) (rows : List Stamped) → StoresRows m (written_of p) ks bs rows → Any (IsDamageOf p m q) ks → ⊥
undamaged m p q [] bs rows stores (i, x, lt, is, damage) = absurd (omega (arith, lt))
undamaged m p q (k ∷ ks) [] rows stores (i, x, lt, is, damage) = absurd stores
undamaged m p q (k ∷ ks) (b ∷ bs) rows (here, more, vector, (asked, held, stamp), rest, are) (zero, x, lt, is, damage) =
    let own : IsDamageOf p m q k = subst (IsDamageOf p m q) (sym is) damage in
    let stamped = stamped_from 0 (epoch_at b.held) asked in
    let holds : HoldsRows m (written_of p) (k ∷ []) stamped = (b.held, stamped, [], vector, (asked, held, refl), refl, sym (append-nil stamped)) in
    own.none stamped holds
undamaged m p q (k ∷ ks) (b ∷ bs) rows (here, more, vector, marked, rest, are) (suc i, x, lt, is, damage) = undamaged m p q ks bs more rest (i, x, omega (arith, lt), is, damage)

pub own_undamaged : {D : Type 0} (disk : Ghosts D) (now : D) (was : Seen) (i j : ℕ) (p : Projected) (f : StoreFault) (d : Database) → IsOwnAt was.stores i j p → p.entry.fresh ≡ true → BlamesProjection p.entry (disk.holds now) f → Stands disk was now d → IsUnblamed f
own_undamaged disk now was i j p fault.Disk d there fresh blames stands = tt
own_undamaged disk now was i j p fault.Memory d there fresh blames stands = tt
own_undamaged disk now was i j p (fault.Damaged q) d there fresh blames stands =
    let own = own_history stands.files was.catalogue was.stores d i j p fresh there stands.are in
    let (rows, (saved, are, is)) = own_stores stands.files was.catalogue.ahm p d i own in
    undamaged stands.files p.entry q p.entry.containers p.beside saved are (blames stands.files stands.quiet.told_is)

-- ---- the numbers

times_most : (c w : ℕ) → w ≤ 131 → c * w ≤ c * 131
times_most zero w le = omega arith
times_most (suc c) w le = let rest = times_most c w le in omega (arith, rest, le)

pub draws_purged : (was is : Seen) (root : Catalogue) (i j next : ℕ) (old entry : Projection) → was.catalogue.next ≡ root.next → is.catalogue ≡ with_entry_at was.catalogue.last next i j entry was.catalogue → root.next ≤ next
    → next ≤ root.next + (length old.containers + 1) * (2 * length old.columns + 3) → length old.columns ≤ 64 → length entry.containers ≤ length old.containers + 1 → DrawsAnew i j 1 was.catalogue is.catalogue old
draws_purged was is root i j next old entry begin same from upto narrow count =
    let rises : is.catalogue.next ≡ next + 1 = ap (λ (c : Catalogue). c.next) same in
    let most = times_most (length old.containers + 1) (2 * length old.columns + 3) (omega (arith, narrow)) in
    record {
      entry = entry;
      tables = ap (λ (c : Catalogue). c.tables) same;
      last = ap (λ (c : Catalogue). c.last) same;
      from = omega (arith, rises, from, begin);
      upto = omega (arith, rises, upto, most, begin);
      count = count;
    }

pub on_ok : {T E : Type 0} (r : Result T E) (A B : Type 0) → (A → B) → OnOk r A → OnOk r B
on_ok (Ok x) A B h a = h a
on_ok (Err e) A B h a = tt

pub both_ok : {T E : Type 0} (r : Result T E) (A B C : Type 0) → (A → B → C) → OnOk r A → OnOk r B → OnOk r C
both_ok (Ok x) A B C h a b = h a b
both_ok (Err e) A B C h a b = tt
