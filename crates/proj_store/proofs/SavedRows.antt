-- Rows of containers, one after the other.
use Rattle.std.proofs.Common.{◌≡◌, ◌+◌, ◌<◌, ◌≤◌, ◌++◌, ℕ, zero, suc, List, [], ◌∷◌, length, map, take, get_or, refl, sym, ◌∙◌, ap, ap₂, subst, arith, append_assoc}
use Rattle.std.specs.Prelude.{Option, Some, None}
use Rattle.std.specs.List.{All, AllZip, Any}
use Rattle.std.proofs.lemmas.List.{append-nil, take_more, take_all, get_or-map, get_or_default, length-map}
use Rattle.std.proofs.lemmas.Slice.Zip.{AllZip-long}
use Rattle.common_laws.specs.Maps.{Contents}
use Rattle.col_disk.specs.declared.disk.StoreFault.{StoreFault}
use Rattle.col_disk.specs.declared.disk.StoreFault.TheVariants.{Disk, Damaged, Memory}
use Rattle.col_value.specs.declared.row.Stamped.{Stamped}
use Rattle.row_history.specs.History.{stamped}
use Rattle.catalog_types.specs.Blank.{blank_container}
use Rattle.catalog_types.specs.declared.catalogue.Container.{Container}
use Rattle.catalog_types.specs.declared.catalogue.ProjColumn.{ProjColumn}
use Rattle.catalog_types.specs.declared.catalogue.Projection.{Projection}
use Rattle.ros_container.specs.Encodings.{Written, written_of}
use Rattle.ros_container.specs.Held.{BlamesContainer}
use Rattle.stored_rows.specs.Held.{HoldsVector, HoldsMarked, stamped_from}
use Rattle.stored_rows.specs.Stored.{Beside, Projected, mark_in, StoresRows, Stores}
use Rattle.vector_files.specs.Blamed.{BlamesVector}
use Rattle.write_store.specs.declared.held.Held.{Held}
use Rattle.write_store.specs.Memory.{stamp}
use Rattle.wanted_rows.specs.Wanted.{asked_in}
use Rattle.wanted_rows.specs.Picked.{asked_of, del_at}
use Rattle.proj_store.specs.declared.kept.Kept.{Kept}
use Rattle.write_store.specs.Memory.{Memory as InMemory}
use Rattle.proj_store.specs.Loaded.{Loaded, beside_of, projected, seen}
use Rattle.ros_container.specs.Readable.{IsReadable}
use Rattle.proj_store.specs.Sound.{MarksItsRows}
use Rattle.proj_store.specs.Reading.{BlamesLoad, BlamesRows, ReadsContainer, ReadsEach, HasVectors}

-- rows in memory as the container has them
first_at : (f : ℕ → Option ℕ) (k : ℕ) (o : Option ℕ) → o ≡ f (k + 0) → o ≡ f k
first_at f k o is = let same : k + 0 ≡ k = omega arith in is ∙ ap f same

rest_at : (f : ℕ → Option ℕ) (k : ℕ) (h : Held) (rows : List Held) → ((i : ℕ) → del_at (h ∷ rows) i ≡ f (k + i)) → (i : ℕ) → del_at rows i ≡ f ((k + 1) + i)
rest_at f k h rows is i = let same : k + suc i ≡ (k + 1) + i = omega arith in is (suc i) ∙ ap f same

stamp_rows : (k : ℕ) (f : ℕ → Option ℕ) (rows : List Held) → ((i : ℕ) → del_at rows i ≡ f (k + i)) → map stamp rows ≡ stamped_from k f (asked_of rows)
stamp_rows k f [] is = refl
stamp_rows k f (h ∷ rows) is =
    ap₂ (λ (d : Option ℕ) (ts : List Stamped). stamped d (asked_in h.inserted) ∷ ts) (first_at f k h.del (is 0)) (stamp_rows (k + 1) f rows (rest_at f k h rows is))

from_start : (f : ℕ → Option ℕ) (i : ℕ) → f i ≡ f (0 + i)
from_start f i = let same : i ≡ 0 + i = omega arith in ap f same

pub read_marked : (m : Contents) (es : List Written) (k : Container) (mark : ℕ → Option ℕ) (rows : List Held) → ReadsContainer m es k mark rows → HoldsMarked m es k mark (map stamp rows)
read_marked m es k mark rows read = (asked_of rows, read.held, stamp_rows 0 mark rows (λ i. read.deleted i ∙ from_start mark i))

-- one container more
reads_push : (m : Contents) (es : List Written) (ks : List Container) (bs : List Beside) (rows : List Stamped) (k : Container) (b : Beside) (here : List Stamped)
    → ReadsEach m es ks bs rows → HoldsMarked m es k (mark_in b) here → ReadsEach m es (ks ++ k ∷ []) (bs ++ b ∷ []) (rows ++ here)
reads_push m es [] [] rows k b here held one = (here, [], one, refl, ap (λ (r : List Stamped). r ++ here) held ∙ sym (append-nil here))
reads_push m es [] (c ∷ bs) rows k b here held one = absurd held
reads_push m es (j ∷ ks) [] rows k b here held one = absurd held
reads_push m es (j ∷ ks) (c ∷ bs) rows k b here (front, more, first, rest, is) one =
    (front, more ++ here, first, reads_push m es ks bs more k b here rest one, ap (λ (r : List Stamped). r ++ here) is ∙ append_assoc front more here)

pub beside_next : (kept : List Kept) (i : ℕ) (d : Kept) → i < length kept → take (i + 1) (map beside_of kept) ≡ take i (map beside_of kept) ++ beside_of (get_or kept i d) ∷ []
beside_next kept i d lt =
    take_more (map beside_of kept) i (beside_of d) (omega (arith, lt, length-map kept beside_of))
    ∙ ap (λ (b : Beside). take i (map beside_of kept) ++ b ∷ []) (get_or-map beside_of kept i d (beside_of d) lt)

pub reads_more : (es : List Written) (ks : List Container) (kept : List Kept) (i : ℕ) (k : Container) (one : Kept) (old new : List Stamped) (rows : List Held) (now found : Option Contents)
    → i < length ks → i < length kept → k ≡ get_or ks i k → one ≡ get_or kept i one → now ≡ found → new ≡ old ++ map stamp rows
    → ((m : Contents) → found ≡ Some m → ReadsEach m es (take i ks) (take i (map beside_of kept)) old)
    → ((m : Contents) → now ≡ Some m → ReadsContainer m es k (mark_in (beside_of one)) rows)
    → (m : Contents) → found ≡ Some m → ReadsEach m es (take (i + 1) ks) (take (i + 1) (map beside_of kept)) new
reads_more es ks kept i k one old new rows now found lt also k_is one_is same new_is was read m told =
    let ks_next : take (i + 1) ks ≡ take i ks ++ k ∷ [] = take_more ks i k lt ∙ ap (λ (x : Container). take i ks ++ x ∷ []) (sym k_is) in
    let bs_next : take (i + 1) (map beside_of kept) ≡ take i (map beside_of kept) ++ beside_of one ∷ [] = beside_next kept i one also ∙ ap (λ (x : Kept). take i (map beside_of kept) ++ beside_of x ∷ []) (sym one_is) in
    subst (λ (js : List Container). ReadsEach m es js (take (i + 1) (map beside_of kept)) new) (sym ks_next)
    (subst (λ (bs : List Beside). ReadsEach m es (take i ks ++ k ∷ []) bs new) (sym bs_next)
    (subst (λ (r : List Stamped). ReadsEach m es (take i ks ++ k ∷ []) (take i (map beside_of kept) ++ beside_of one ∷ []) r) (sym new_is)
    (reads_push m es (take i ks) (take i (map beside_of kept)) old k (beside_of one) (map stamp rows) (was m told) (read_marked m es k (mark_in (beside_of one)) rows (read m (same ∙ told))))))

pub reads_all : (m : Contents) (es : List Written) (ks : List Container) (bs : List Beside) (i : ℕ) (rows : List Stamped) → length ks ≤ i → length bs ≤ i → ReadsEach m es (take i ks) (take i bs) rows → ReadsEach m es ks bs rows
reads_all m es ks bs i rows past also read =
    subst (λ (js : List Container). ReadsEach m es js bs rows) (take_all i ks past) (subst (λ (cs : List Beside). ReadsEach m es (take i ks) cs rows) (take_all i bs also) read)

-- as many are kept as there are containers
pub kept_long : (ks : List Container) (kept : List Kept) → AllZip MarksItsRows ks (map beside_of kept) → length kept ≡ length ks
kept_long ks kept all = sym (length-map kept beside_of) ∙ AllZip-long MarksItsRows ks (map beside_of kept) all

pub zip_at : {A B : Type 0} (R : A → B → Type 0) (xs : List A) (ys : List B) (i : ℕ) (x : A) (y : B) → AllZip R xs ys → i < length xs → R (get_or xs i x) (get_or ys i y)
zip_at R [] ys i x y all lt = absurd (omega (arith, lt))
zip_at R (a ∷ xs) [] i x y all lt = absurd all
zip_at R (a ∷ xs) (b ∷ ys) zero x y all lt = all.0
zip_at R (a ∷ xs) (b ∷ ys) (suc i) x y all lt = zip_at R xs ys i x y all.1 (omega (arith, lt))

pub kept_at : (ks : List Container) (kept : List Kept) (i : ℕ) (k : Container) (one : Kept) → AllZip MarksItsRows ks (map beside_of kept) → i < length ks → k ≡ get_or ks i k → one ≡ get_or kept i one → MarksItsRows k (beside_of one)
kept_at ks kept i k one all lt k_is one_is =
    let in_kept : i < length kept = omega (arith, lt, kept_long ks kept all) in
    subst (λ (x : Container). MarksItsRows x (beside_of one)) (sym k_is)
    (subst (λ (b : Beside). MarksItsRows (get_or ks i k) b) (get_or-map beside_of kept i one (beside_of one) in_kept ∙ ap beside_of (sym one_is))
    (zip_at MarksItsRows ks (map beside_of kept) i k (beside_of one) all lt))

-- with the delete vectors of the disk these are the stored rows
pub stores_each : (m : Contents) (es : List Written) (ks : List Container) (bs : List Beside) (rows : List Stamped) → AllZip (λ k b. HoldsVector m k b.held) ks bs → ReadsEach m es ks bs rows → StoresRows m es ks bs rows
stores_each m es [] [] rows vectors read = read
stores_each m es [] (b ∷ bs) rows vectors read = absurd read
stores_each m es (k ∷ ks) [] rows vectors read = absurd read
stores_each m es (k ∷ ks) (b ∷ bs) rows vectors (here, more, marked, rest, is) = (here, more, vectors.0, marked, stores_each m es ks bs more vectors.1 rest, is)

pub stored_all : (m : Contents) (p : Projected) (saved unsaved rows : List Stamped) → HasVectors m p → ReadsEach m (written_of p.entry) p.entry.containers p.beside saved → unsaved ≡ p.unsaved → rows ≡ saved ++ unsaved → Stores m p rows
stored_all m p saved unsaved rows vectors read same is =
    (saved, stores_each m (written_of p.entry) p.entry.containers p.beside saved vectors read, is ∙ ap (λ (r : List Stamped). saved ++ r) same)

-- the file of a container that is to blame
pub blames_load : (ks : List Container) (i : ℕ) (k : Container) (holds : Option Contents) (fault : StoreFault) → i < length ks → k ≡ get_or ks i k → BlamesVector k holds fault → BlamesLoad ks holds fault
blames_load ks i k holds Disk lt is blames = tt
blames_load ks i k holds Memory lt is blames = tt
blames_load ks i k holds (Damaged q) lt is blames = (i, k, lt, sym is, blames)

pub blames_rows : (p : Projection) (ks : List Container) (i : ℕ) (k : Container) (holds : Option Contents) (fault : StoreFault) → ks ≡ p.containers → i < length ks → k ≡ get_or ks i k → BlamesContainer (written_of p) k holds fault → BlamesRows p holds fault
blames_rows p ks i k holds Disk same lt is blames = tt
blames_rows p ks i k holds Memory same lt is blames = tt
blames_rows p ks i k holds (Damaged q) same lt is blames = subst (λ (js : List Container). Any (λ k. BlamesContainer (written_of p) k holds (Damaged q)) js) same (i, k, lt, sym is, blames)

-- the same of an entry's containers as a slice
pub reads_done : (es : List Written) (ks ps : List Container) (kept : List Kept) (i : ℕ) (rows : List Stamped) (found : Option Contents) → ks ≡ ps → AllZip MarksItsRows ps (map beside_of kept) → length ks ≤ i
    → ((m : Contents) → found ≡ Some m → ReadsEach m es (take i ks) (take i (map beside_of kept)) rows) → (m : Contents) → found ≡ Some m → ReadsEach m es ps (map beside_of kept) rows
reads_done es ks ps kept i rows found same all past read m told =
    let long : length (map beside_of kept) ≤ i = omega (arith, past, ap length same, AllZip-long MarksItsRows ps (map beside_of kept) all) in
    subst (λ (js : List Container). ReadsEach m es js (map beside_of kept) rows) same (reads_all m es ks (map beside_of kept) i rows past long (read m told))

pub kept_within : (ks ps : List Container) (kept : List Kept) (i : ℕ) → ks ≡ ps → AllZip MarksItsRows ps (map beside_of kept) → i < length ks → i < length kept
kept_within ks ps kept i same all lt = omega (arith, lt, ap length same, kept_long ps kept all)

pub files_at : (cs : List ProjColumn) (ks ps : List Container) (i : ℕ) (k : Container) → ks ≡ ps → All (IsReadable cs) ps → i < length ks → k ≡ get_or ks i k → IsReadable cs k
files_at cs ks ps i k same all lt is = subst (IsReadable cs) (sym is) (subst (All (IsReadable cs)) (sym same) all i k lt)

pub kept_here : (ks ps : List Container) (kept : List Kept) (i : ℕ) (k : Container) (one : Kept) → ks ≡ ps → AllZip MarksItsRows ps (map beside_of kept) → i < length ks → k ≡ get_or ks i k → one ≡ get_or kept i one → MarksItsRows k (beside_of one)
kept_here ks ps kept i k one same all lt k_is one_is = kept_at ks kept i k one (subst (λ (js : List Container). AllZip MarksItsRows js (map beside_of kept)) (sym same) all) lt k_is one_is

pub blames_here : (p : Projection) (ks : List Container) (i : ℕ) (k : Container) (now found : Option Contents) (fault : StoreFault) → ks ≡ p.containers → i < length ks → k ≡ get_or ks i k → now ≡ found
    → BlamesContainer (written_of p) k now fault → BlamesRows p found fault
blames_here p ks i k now found fault same lt is kept blames = blames_rows p ks i k found fault same lt is (subst (λ (h : Option Contents). BlamesContainer (written_of p) k h fault) kept blames)

pub blames_load_here : (ks : List Container) (i : ℕ) (k : Container) (now found : Option Contents) (fault : StoreFault) → i < length ks → k ≡ get_or ks i k → now ≡ found → BlamesVector k now fault → BlamesLoad ks found fault
blames_load_here ks i k now found fault lt is kept blames = blames_load ks i k found fault lt is (subst (λ (h : Option Contents). BlamesVector k h fault) kept blames)

-- the container at a place
abbrev pub item : List Container → ℕ → Container
item ks i = get_or ks i blank_container

pub item_is : (ks : List Container) (i : ℕ) → i < length ks → item ks i ≡ get_or ks i (item ks i)
item_is ks i lt = get_or_default ks i _ (item ks i) lt

-- all rows of a projection as it is seen
pub stored_seen : (m : Contents) (entry : Projection) (kept inside : List Kept) (memory : InMemory) (p : Loaded) (saved : List Stamped) (unsaved : List Held) (rows : List Stamped) → kept ≡ inside → seen entry inside memory ≡ p
    → HasVectors m p.stored → ReadsEach m (written_of entry) entry.containers (map beside_of kept) saved → map stamp unsaved ≡ memory.rows → rows ≡ saved ++ map stamp unsaved → Stores m p.stored rows
stored_seen m entry kept inside memory p saved unsaved rows same is vectors read are all =
    let vectors_too : HasVectors m (projected entry inside memory) = subst (λ (x : Loaded). HasVectors m x.stored) (sym is) vectors in
    let read_too : ReadsEach m (written_of entry) entry.containers (map beside_of inside) saved = subst (λ (ks : List Kept). ReadsEach m (written_of entry) entry.containers (map beside_of ks) saved) same read in
    subst (λ (x : Loaded). Stores m x.stored rows) is (stored_all m (projected entry inside memory) saved (map stamp unsaved) rows vectors_too read_too are all)
