-- After a purge each container has its delete vector on disk, or is one of those that were there.
use Rattle.std.proofs.Common.{◌≡◌, ◌<◌, ◌≤◌, ◌++◌, ℕ, List, [], ◌∷◌, length, get_or, refl, sym, ap, subst, arith, inl, inr}
use Rattle.std.specs.Prelude.{Option, Some, None, IfSome}
use Rattle.std.specs.List.{All}
use Rattle.std.proofs.lemmas.List.Elements.{All-append, All-cons, All-nil, All-weaker}
use Rattle.common_laws.specs.Maps.{Contents}
use Rattle.col_disk.specs.Moved.{Moved, NoName}
use Rattle.col_disk.specs.declared.disk.Disk.{Ghosts}
use Rattle.col_disk.specs.declared.disk.StoreFault.{StoreFault}
use Rattle.col_disk.specs.declared.disk.StoreFault.TheVariants.{Disk, Damaged, Memory}
use Rattle.col_disk.proofs.Moving.{moved_told}
use Rattle.col_value.specs.declared.row.Stamped.{Stamped}
use Rattle.catalog_types.specs.declared.catalogue.Container.{Container}
use Rattle.catalog_types.specs.declared.catalogue.Projection.{Projection}
use Rattle.ros_container.specs.Encodings.{Written}
use Rattle.proj_store.specs.Reading.{BlamesLoad}
use Rattle.proj_store.specs.Sound.{IsLoadable}
use Rattle.container_writer.specs.Writing.{listed, AreNumbered, DataFrom, HoldsBag}
use Rattle.moveout_job.specs.OnDisk.{HasVectorBelow, IsKeptOrHasVector, IsListedBelow, KeepsOrHasVector}
use Rattle.moveout_job.proofs.Assembled.{all_listed, made_all_below}
use Rattle.moveout_job.proofs.Vectors.{kept_blamed, kept_later, made_vector, moved_back, some_kept, written_vectors}
use Rattle.container_cut.specs.Blamed.{BlamesProjection, IsDamageOf}
use Rattle.container_cut.proofs.Below.{below_data}
use Rattle.container_cut.proofs.Faults.{entry_back, vector_blamed}
use Rattle.purge_job.specs.Purging.{purged_to}
use Rattle.purge_job.proofs.Turns.{cut_below}

-- ---- one container

pub one_vector : (after : ℕ) (n : Contents) (k j : Container) → KeepsOrHasVector after n k j → All (KeepsOrHasVector after n k) (j ∷ [])
one_vector after n k j is = All-cons (KeepsOrHasVector after n k) j [] is (All-nil (KeepsOrHasVector after n k))

pub rewritten_vector : (columns next after : ℕ) (n : Contents) (es : List Written) (k : Container) (made : Option Container) (rows : List Stamped) → AreNumbered columns next after made → HoldsBag n es (listed made) rows
    → All (KeepsOrHasVector after n k) (listed made)
rewritten_vector columns next after n es k made rows numbers bag =
    all_listed (KeepsOrHasVector after n k) [] made (All-nil (KeepsOrHasVector after n k)) (new made (made_vector n after es made rows bag (made_all_below columns next after made numbers)))
  where
    new : (o : Option Container) → IfSome o (HasVectorBelow after n) → IfSome o (KeepsOrHasVector after n k)
    new None has = tt
    new (Some j) has = inr has

-- ---- one turn of the loop

pub vectors_more : {D : Type 0} (disk : Ghosts D) {mid new : D} (after end i : ℕ) (shown ks js made out : List Container) (k : Container) → shown ≡ ks → i < length shown → k ≡ get_or shown i k → out ≡ js ++ made → after ≤ end
    → Moved disk (DataFrom after) NoName mid new → ((m : Contents) → disk.holds mid ≡ Some m → All (IsKeptOrHasVector after m ks) js) → ((n : Contents) → disk.holds new ≡ Some n → All (KeepsOrHasVector end n k) made)
    → (n : Contents) → disk.holds new ≡ Some n → All (IsKeptOrHasVector end n ks) out
vectors_more disk after end i shown ks js made out k same lt k_is out_is le moved was one n told =
    let (m, told_m, changed) = moved_back disk n told moved in
    subst (All (IsKeptOrHasVector end n ks)) (sym out_is)
    (All-append (IsKeptOrHasVector end n ks) js made (All-weaker (IsKeptOrHasVector after m ks) (IsKeptOrHasVector end n ks) (λ x kept. kept_later m n after end ks x le changed kept) js (was m told_m))
    (All-weaker (KeepsOrHasVector end n k) (IsKeptOrHasVector end n ks) (λ x kept. of x kept) made (one n told)))
  where
    inside : i < length ks
    inside = omega (arith, lt, ap length same)

    at : get_or ks i k ≡ k
    at = sym (subst (λ (xs : List Container). k ≡ get_or xs i k) same k_is)

    of : (x : Container) → KeepsOrHasVector end n k x → IsKeptOrHasVector end n ks x
    of x (inl is) = inl (i, inside, subst (λ (y : Container). get_or ks i y ≡ y) (sym is) at)
    of x (inr has) = inr has

-- ---- the entry

pub purged_vectors : {D : Type 0} (disk : Ghosts D) {mid new : D} (after end columns : ℕ) (es : List Written) (old entry : Projection) (js : List Container) (made : Option Container) (rows : List Stamped) → entry ≡ purged_to js made old
    → AreNumbered columns after end made → Moved disk (DataFrom after) NoName mid new → ((m : Contents) → disk.holds mid ≡ Some m → All (IsKeptOrHasVector after m old.containers) js) → ((m : Contents) → disk.holds new ≡ Some m → HoldsBag m es (listed made) rows)
    → (n : Contents) → disk.holds new ≡ Some n → All (IsKeptOrHasVector end n old.containers) entry.containers
purged_vectors disk after end columns es old entry js made rows is numbers moved was bag n told =
    let have = written_vectors disk after end columns es old.containers js made rows numbers moved was bag n told in
    subst (All (IsKeptOrHasVector end n old.containers)) (sym (ap (λ (e : Projection). e.containers) is))
    (all_listed (IsKeptOrHasVector end n old.containers) js made have.each (some_kept end n old.containers made have.last))

-- ---- which file is blamed where the entry that was made is read

-- it is the delete vector of a container that was there, and it was bad before
pub loads_blamed : {D : Type 0} (disk : Ghosts D) {old mid : D} (p entry : Projection) (next after : ℕ) (fault : StoreFault) → IsLoadable p → IsListedBelow next p → Moved disk (DataFrom next) NoName old mid
    → ((n : Contents) → disk.holds mid ≡ Some n → All (IsKeptOrHasVector after n p.containers) entry.containers) → BlamesLoad entry.containers (disk.holds mid) fault → BlamesProjection p (disk.holds old) fault
loads_blamed disk p entry next after (Damaged q) loadable below moved kept blames = λ m told.
    let (n, left, changed) = moved_told disk m told moved in
    let (i, k, lt, is, bad) = kept_blamed after n p.containers entry.containers (Damaged q) (kept n left) (subst (λ (h : Option Contents). BlamesLoad entry.containers h (Damaged q)) left blames) in
    let damage : IsDamageOf p n q k = vector_blamed p k (Some n) (Damaged q) bad n refl in
    entry_back m n next q p (below_data m n next changed) (cut_below next p loadable below) (i, k, lt, is, damage)
loads_blamed disk p entry next after Disk loadable below moved kept blames = tt
loads_blamed disk p entry next after Memory loadable below moved kept blames = tt
