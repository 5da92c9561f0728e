-- Containers without the rows that were deleted at or before a mark, one after the other.
use Rattle.std.proofs.Common.{◌≡◌, ◌+◌, ◌*◌, ◌<◌, ◌≤◌, ◌++◌, ℕ, zero, suc, List, [], ◌∷◌, length, take, get_or, refl, sym, ◌∙◌, ap, ap₂, subst, arith}
use Rattle.std.specs.Prelude.{Option, Some, None, IfSome, IsSomeAnd}
use Rattle.std.specs.List.{All, AllZip, slice_get}
use Rattle.std.proofs.lemmas.List.{take_more, take_all, length-append}
use Rattle.std.proofs.lemmas.List.Elements.{All-append, All-contains, All-weaker, All-nil, filter-append}
use Rattle.std.proofs.lemmas.Slice.Zip.{AllZip-long}
use Rattle.common_laws.specs.Bags.{SameBag}
use Rattle.common_laws.specs.Maps.{Contents}
use Rattle.common_laws.proofs.BagLaws.{bag_refl, bag_append}
use Rattle.col_disk.specs.Moved.{Moved, NoName}
use Rattle.col_disk.specs.declared.disk.Disk.{Ghosts}
use Rattle.col_disk.specs.declared.disk.StoreFault.{StoreFault}
use Rattle.col_value.specs.declared.row.Stamped.{Stamped}
use Rattle.row_history.specs.History.{is_retained, retained}
use Rattle.catalog_types.specs.declared.catalogue.Container.{Container}
use Rattle.catalog_types.specs.declared.catalogue.ProjColumn.{ProjColumn}
use Rattle.catalog_types.specs.declared.catalogue.Projection.{Projection}
use Rattle.ros_container.specs.Encodings.{Written, written_of}
use Rattle.del_vector.specs.declared.mark.Mark.{Mark}
use Rattle.stored_rows.specs.Stored.{Beside, Projected, mark_in}
use Rattle.stored_rows.proofs.KeptRows.{vector_kept}
use Rattle.proj_store.specs.Sound.{HasVectorNumber, MarksItsRows, IsLoadable, IsSound}
use Rattle.ros_container.specs.Readable.{IsReadable}
use Rattle.container_writer.specs.Writing.{listed, DataFrom}
use Rattle.container_cut.specs.Listed as cut
use Rattle.container_cut.specs.Blamed.{BlamesOne, BlamesProjection, IsDamageOf}
use Rattle.container_cut.proofs.Faults.{blames_among, damage_back}
use Rattle.moveout_job.specs.OnDisk.{IsBelow, IsListedBelow, beside}
use Rattle.moveout_job.proofs.Renewed.{all_front, all_last, at_slice, between, marked_kept, parted, rows_below, rows_join, same_below, wider_below}
use Rattle.moveout_job.proofs.Assembled.{short}
use Rattle.purge_job.specs.Purging.{CanLoad, HoldRetained, PurgesOne, PurgesEach}

-- ---- rows

pub purges_none : (mark : ℕ) (es : List Written) (next : ℕ) (found : Option Contents) → PurgesEach mark es next next [] [] [] found found
purges_none mark es next found m rows told below stores =
    (m, told, record { held = []; are = refl; bag = subst (λ (xs : List Stamped). SameBag [] (retained mark xs)) (sym stores) (bag_refl []); below = All-nil (IsBelow next) })

pub purges_more : {D : Type 0} (disk : Ghosts D) {old mid new : D} (mark : ℕ) (es : List Written) (next after end : ℕ) (ks js made : List Container) (bs : List Beside) (k : Container) (b : Beside) → next ≤ after → after ≤ end
    → Moved disk (DataFrom next) NoName old mid → Moved disk (DataFrom after) NoName mid new → PurgesEach mark es next after ks bs js (disk.holds old) (disk.holds mid) → PurgesOne mark es after end k b made (disk.holds mid) (disk.holds new)
    → PurgesEach mark es next end (ks ++ k ∷ []) (bs ++ b ∷ []) (js ++ made) (disk.holds old) (disk.holds new)
purges_more disk mark es next after end ks js made bs k b le lt first second was one m rows told below stores =
    let p = parted m es ks bs k b rows stores in
    let low_k : IsBelow next k = all_last (IsBelow next) ks k below in
    let (l, told_l, had) = was m p.front told (all_front (IsBelow next) ks k below) p.before in
    let same = same_below m l next k low_k (between disk m l told told_l first) in
    let (n, told_n, has) = one l p.last told_l (wider_below next after k le low_k) (vector_kept m l k b.held same p.vector) (marked_kept m l es k (mark_in b) p.last same p.marked) in
    let changed = between disk l n told_l told_n second in
    let all : retained mark p.front ++ retained mark p.last ≡ retained mark rows = sym (filter-append (is_retained mark) p.front p.last) ∙ ap (retained mark) (sym p.are) in (
      n,
      told_n,
      record {
        held = had.held ++ has.held;
        are = rows_join n es js made had.held has.held (rows_below l n es js had.held after had.below changed had.are) has.are;
        bag = subst (SameBag (had.held ++ has.held)) all (bag_append had.held has.held (retained mark p.front) (retained mark p.last) had.bag has.bag);
        below = All-append (IsBelow end) js made (All-weaker (IsBelow after) (IsBelow end) (λ x low. wider_below after end x lt low) js had.below) has.below;
      },
    )

pub turn : {D : Type 0} (disk : Ghosts D) {old mid new : D} (mark : ℕ) (es : List Written) (next after end i : ℕ) (shown ks js made out : List Container) (bs : List Beside) (k : Container) (held fresh : List Mark) → shown ≡ ks → i < length shown → i < length bs
    → k ≡ get_or shown i k → IsSomeAnd (slice_get bs i) (λ b. held ≡ b.held) → IsSomeAnd (slice_get bs i) (λ b. fresh ≡ b.fresh) → out ≡ js ++ made → next ≤ after → after ≤ end
    → Moved disk (DataFrom next) NoName old mid → Moved disk (DataFrom after) NoName mid new → PurgesEach mark es next after (take i ks) (take i bs) js (disk.holds old) (disk.holds mid)
    → PurgesOne mark es after end k (beside held fresh) made (disk.holds mid) (disk.holds new) → PurgesEach mark es next end (take (i + 1) ks) (take (i + 1) bs) out (disk.holds old) (disk.holds new)
turn disk {old} {mid} {new} mark es next after end i shown ks js made out bs k held fresh same lt also k_is held_is fresh_is out_is le up first second was one =
    let d : Beside = beside held fresh in
    let b : Beside = get_or bs i d in
    let b_is : d ≡ b = ap₂ beside (at_slice (λ c. held ≡ c.held) bs i d held_is) (at_slice (λ c. fresh ≡ c.fresh) bs i d fresh_is) in
    let inside : i < length ks = omega (arith, lt, ap length same) in
    let here : k ≡ get_or ks i k = subst (λ (xs : List Container). k ≡ get_or xs i k) same k_is in
    let ks_next : take (i + 1) ks ≡ take i ks ++ k ∷ [] = take_more ks i k inside ∙ ap (λ (x : Container). take i ks ++ x ∷ []) (sym here) in
    let bs_next : take (i + 1) bs ≡ take i bs ++ d ∷ [] = take_more bs i d also ∙ ap (λ (x : Beside). take i bs ++ x ∷ []) (sym b_is) in
    subst (λ (xs : List Container). PurgesEach mark es next end xs (take (i + 1) bs) out (disk.holds old) (disk.holds new)) (sym ks_next)
    (subst (λ (cs : List Beside). PurgesEach mark es next end (take i ks ++ k ∷ []) cs out (disk.holds old) (disk.holds new)) (sym bs_next)
    (subst (λ (ys : List Container). PurgesEach mark es next end (take i ks ++ k ∷ []) (take i bs ++ d ∷ []) ys (disk.holds old) (disk.holds new)) (sym out_is)
    (purges_more disk mark es next after end (take i ks) js made (take i bs) k d le up first second was one)))

pub purges_all : (mark : ℕ) (es : List Written) (next after i : ℕ) (shown js : List Container) (p : Projected) (found left : Option Contents) → shown ≡ p.entry.containers → IsSound p.entry p.beside → length shown ≤ i
    → PurgesEach mark es next after (take i p.entry.containers) (take i p.beside) js found left → PurgesEach mark es next after p.entry.containers p.beside js found left
purges_all mark es next after i shown js p found left same sound done each =
    let past : length p.entry.containers ≤ i = omega (arith, done, ap length same) in
    let also : length p.beside ≤ i = omega (arith, done, ap length same, AllZip-long MarksItsRows p.entry.containers p.beside sound.kept) in
    subst (λ (ks : List Container). PurgesEach mark es next after ks p.beside js found left) (take_all i p.entry.containers past)
    (subst (λ (bs : List Beside). PurgesEach mark es next after (take i p.entry.containers) bs js found left) (take_all i p.beside also) each)

-- ---- what is kept of a container

pub kept_at : (ks : List Container) (bs : List Beside) (i : ℕ) (k : Container) (held fresh : List Mark) → AllZip MarksItsRows ks bs → i < length ks → k ≡ get_or ks i k → IsSomeAnd (slice_get bs i) (λ b. held ≡ b.held) → IsSomeAnd (slice_get bs i) (λ b. fresh ≡ b.fresh)
    → MarksItsRows k (beside held fresh)
kept_at [] bs i k held fresh zipped lt is held_is fresh_is = absurd (omega (arith, lt))
kept_at (x ∷ ks) [] i k held fresh zipped lt is held_is fresh_is = absurd zipped
kept_at (x ∷ ks) (b ∷ bs) zero k held fresh zipped lt is held_is fresh_is = subst (λ (y : Container). MarksItsRows y (beside held fresh)) (sym is) (subst (MarksItsRows x) (sym (ap₂ beside held_is fresh_is)) zipped.0)
kept_at (x ∷ ks) (b ∷ bs) (suc i) k held fresh zipped lt is held_is fresh_is = kept_at ks bs i k held fresh zipped.1 (omega (arith, lt)) is held_is fresh_is

pub at_place : (P : Container → Type 0) (ks : List Container) (i : ℕ) (k : Container) → i < length ks → k ≡ get_or ks i k → All P ks → P k
at_place P ks i k lt is all = All-contains P ks k all (i, lt, sym is)

-- ---- counts

pub loads_more : (columns : List ProjColumn) (js made out : List Container) → out ≡ js ++ made → All (CanLoad columns) js → All (CanLoad columns) made → All (CanLoad columns) out
loads_more columns js made out is before here = subst (All (CanLoad columns)) (sym is) (All-append (CanLoad columns) js made before here)

pub fewer_more : (i : ℕ) (js out : List Container) (made : Option Container) → out ≡ js ++ listed made → length js ≤ i → length out ≤ i + 1
fewer_more i js out made is le = let all = ap length is in let parts = length-append js (listed made) in let one = short made in omega (arith, all, parts, one, le)

pub numbers_more : (i width next after end : ℕ) → after ≤ next + i * width → end ≤ after + width → end ≤ next + (i + 1) * width
numbers_more i width next after end was here = let more : (i + 1) * width ≡ i * width + width = omega arith in omega (arith, was, here, more)

-- ---- which file is to blame

pub cut_below : (next : ℕ) (p : Projection) → IsLoadable p → IsListedBelow next p → cut.IsListedBelow next p
cut_below next p loadable below = by p.containers loadable.files below
  where
    by : (ks : List Container) → All (IsReadable p.columns) ks → All (IsBelow next) ks → All (cut.IsBelow next p.columns) ks
    by ks files low = λ i d lt. record { of_columns = (files i d lt).of_columns; files = (low i d lt).files; vector = (low i d lt).vector }

pub blamed_before : {D : Type 0} (disk : Ghosts D) {old mid : D} (p : Projection) (next i : ℕ) (shown : List Container) (k : Container) (fault : StoreFault) → shown ≡ p.containers → i < length shown → k ≡ get_or shown i k → IsLoadable p
    → Moved disk (DataFrom next) NoName old mid → BlamesOne p k (disk.holds mid) fault → IsListedBelow next p → BlamesProjection p (disk.holds old) fault
blamed_before disk p next i shown k fault same lt is loadable moved blames below =
    let inside : i < length p.containers = omega (arith, lt, ap length same) in
    let here : k ≡ get_or p.containers i k = subst (λ (xs : List Container). k ≡ get_or xs i k) same is in
    blames_among disk (IsDamageOf p) (cut.IsBelow next p.columns) next p.containers i k fault inside here (λ m l q y same_files low d. damage_back m l next p q y same_files low d) (cut_below next p loadable below) moved blames
