-- After a moveout each container has its delete vector on disk, or is one of those that were there.
use Rattle.std.proofs.Common.{◌≡◌, ◌+◌, ◌<◌, ◌≤◌, ◌++◌, ℕ, zero, suc, List, [], ◌∷◌, length, take, get_or, refl, sym, ◌∙◌, ap, subst, arith, inl, inr}
use Rattle.std.specs.Prelude.{Option, Some, None, IfSome}
use Rattle.std.specs.List.{All, AllZip, Any}
use Rattle.std.specs.FinMap.{get}
use Rattle.std.proofs.lemmas.List.{take_more, take_all}
use Rattle.std.proofs.lemmas.List.Elements.{All-cons, All-nil, All-weaker}
use Rattle.common_laws.specs.Maps.{Contents}
use Rattle.col_disk.specs.Calls.{Stepped}
use Rattle.col_disk.specs.Moved.{Changed, Moved, NoName}
use Rattle.col_disk.specs.declared.disk.Disk.{Ghosts}
use Rattle.col_disk.specs.declared.disk.StoreFault.{StoreFault}
use Rattle.col_disk.specs.declared.disk.StoreFault.TheVariants.{Disk, Damaged, Memory}
use Rattle.col_disk.proofs.Moving.{changed_kept}
use Rattle.col_value.specs.declared.row.Stamped.{Stamped}
use Rattle.catalog_types.specs.declared.catalogue.Container.{Container}
use Rattle.catalog_types.specs.declared.catalogue.Projection.{Projection}
use Rattle.del_vector.specs.declared.mark.Mark.{Mark}
use Rattle.ros_container.specs.Encodings.{Written}
use Rattle.stored_rows.specs.Held.{HoldsVector, HoldsVectorAt}
use Rattle.stored_rows.specs.Listed.{vector_file}
use Rattle.vector_files.specs.Blamed.{BlamesVector, IsNoVectorAt}
use Rattle.proj_store.specs.Reading.{BlamesLoad}
use Rattle.container_writer.specs.Writing.{listed, with_vector, AreNumbered, DataFrom, HoldsBag}
use Rattle.moveout_job.specs.OnDisk.{moved_to, HasVectorBelow, HaveVectors, IsBelow, IsKeptOrHasVector, KeepsOrHasVector}
use Rattle.moveout_job.proofs.Renewed.{number_below, zip_push, zip_weaker}
use Rattle.moveout_job.proofs.Assembled.{all_listed, made_all_below, numbers_rise}

-- ---- one container

pub vector_made : (n : Contents) (next : ℕ) (k j : Container) (marks : List Mark) → j ≡ with_vector next marks k → HoldsVector n j marks → KeepsOrHasVector (next + 1) n k j
vector_made n next k j marks is held = inr (record { marks = marks; held = held; low = subst (λ (x : Container). IfSome x.marks (λ v. v < next + 1)) (sym is) (number_below next marks) })

-- ---- files that stay

stepped_back : (P : Contents → Contents → Type 0) (old new : Option Contents) (n : Contents) → new ≡ Some n → Stepped P old new → (m : Contents) × (old ≡ Some m) × P m n
stepped_back P old new n told step = there old (subst (λ (o : Option Contents). Stepped P old o) told step)
  where
    there : (o : Option Contents) → Stepped P o (Some n) → (m : Contents) × (o ≡ Some m) × P m n
    there None step = absurd step
    there (Some m) step = (m, refl, step)

pub moved_back : {D : Type 0} (disk : Ghosts D) {W R : ℕ → Type 0} {old new : D} (n : Contents) → disk.holds new ≡ Some n → Moved disk W R old new → (m : Contents) × (disk.holds old ≡ Some m) × Changed W R m n
moved_back disk {W} {R} {old} {new} n told moved = stepped_back (Changed W R) (disk.holds old) (disk.holds new) n told moved.contents

file_stays : (m n : Contents) (after v q : ℕ) → v < after → q ≡ vector_file v → Changed (DataFrom after) NoName m n → get n q ≡ get m q
file_stays m n after v q low is changed = changed_kept (DataFrom after) NoName m n q (λ d. let from = d.1 in let same = d.2 in omega (arith, low, is, from, same)) (λ x. x) changed

pub vector_later : (m n : Contents) (after end : ℕ) (k : Container) → after ≤ end → Changed (DataFrom after) NoName m n → HasVectorBelow after m k → HasVectorBelow end n k
vector_later m n after end k le changed has = record { marks = has.marks; held = by k.marks has.low has.held; low = up k.marks has.low }
  where
    by : (o : Option ℕ) → IfSome o (λ v. v < after) → HoldsVectorAt m k o has.marks → HoldsVectorAt n k o has.marks
    by None low held = held
    by (Some v) low held = (held.0, file_stays m n after v (vector_file v) low refl changed ∙ held.1)

    up : (o : Option ℕ) → IfSome o (λ v. v < after) → IfSome o (λ v. v < end)
    up None low = tt
    up (Some v) low = omega (arith, low, le)

pub keeps_later : (m n : Contents) (after end : ℕ) (k j : Container) → after ≤ end → Changed (DataFrom after) NoName m n → KeepsOrHasVector after m k j → KeepsOrHasVector end n k j
keeps_later m n after end k j le changed (inl same) = inl same
keeps_later m n after end k j le changed (inr has) = inr (vector_later m n after end j le changed has)

-- ---- one turn of the loop

pub vectors_turn : {D : Type 0} (disk : Ghosts D) {mid new : D} (after end i : ℕ) (shown ks js out : List Container) (k j : Container) → shown ≡ ks → i < length shown → k ≡ get_or shown i k → out ≡ js ++ j ∷ [] → after ≤ end
    → Moved disk (DataFrom after) NoName mid new → ((m : Contents) → disk.holds mid ≡ Some m → AllZip (KeepsOrHasVector after m) (take i ks) js) → ((n : Contents) → disk.holds new ≡ Some n → KeepsOrHasVector end n k j)
    → (n : Contents) → disk.holds new ≡ Some n → AllZip (KeepsOrHasVector end n) (take (i + 1) ks) out
vectors_turn disk after end i shown ks js out k j same lt k_is out_is le moved was one n told =
    let (m, told_m, changed) = moved_back disk n told moved in
    let inside : i < length ks = omega (arith, lt, ap length same) in
    let here : k ≡ get_or ks i k = subst (λ (xs : List Container). k ≡ get_or xs i k) same k_is in
    let ks_next : take (i + 1) ks ≡ take i ks ++ k ∷ [] = take_more ks i k inside ∙ ap (λ (x : Container). take i ks ++ x ∷ []) (sym here) in
    subst (λ (xs : List Container). AllZip (KeepsOrHasVector end n) xs out) (sym ks_next)
    (subst (AllZip (KeepsOrHasVector end n) (take i ks ++ k ∷ [])) (sym out_is)
    (zip_push (KeepsOrHasVector end n) (take i ks) js k j
    (zip_weaker (KeepsOrHasVector after m) (KeepsOrHasVector end n) (λ x y is. keeps_later m n after end x y le changed is) (take i ks) js (was m told_m)) (one n told)))

pub vectors_all : {D : Type 0} (disk : Ghosts D) {now : D} (after i : ℕ) (shown ks js : List Container) → shown ≡ ks → length shown ≤ i → ((m : Contents) → disk.holds now ≡ Some m → AllZip (KeepsOrHasVector after m) (take i ks) js)
    → (n : Contents) → disk.holds now ≡ Some n → AllZip (KeepsOrHasVector after n) ks js
vectors_all disk after i shown ks js same done was n told =
    let past : length ks ≤ i = omega (arith, done, ap length same) in
    subst (λ (xs : List Container). AllZip (KeepsOrHasVector after n) xs js) (take_all i ks past) (was n told)

-- ---- the entry

pub all_kept : (after : ℕ) (n : Contents) (ks js : List Container) → AllZip (KeepsOrHasVector after n) ks js → All (IsKeptOrHasVector after n ks) js
all_kept after n [] [] each = All-nil (IsKeptOrHasVector after n [])
all_kept after n [] (j ∷ js) each = absurd each
all_kept after n (k ∷ ks) [] each = absurd each
all_kept after n (k ∷ ks) (j ∷ js) (one, each) =
    All-cons (IsKeptOrHasVector after n (k ∷ ks)) j js (first one) (All-weaker (IsKeptOrHasVector after n ks) (IsKeptOrHasVector after n (k ∷ ks)) (λ x is. further x is) js (all_kept after n ks js each))
  where
    first : KeepsOrHasVector after n k j → IsKeptOrHasVector after n (k ∷ ks) j
    first (inl same) = inl (zero, omega arith, sym same)
    first (inr has) = inr has

    further : (x : Container) → IsKeptOrHasVector after n ks x → IsKeptOrHasVector after n (k ∷ ks) x
    further x (inl (i, lt, is)) = inl (suc i, omega (arith, lt), is)
    further x (inr has) = inr has

pub made_vector : (n : Contents) (after : ℕ) (es : List Written) (made : Option Container) (rows : List Stamped) → HoldsBag n es (listed made) rows → IfSome made (IsBelow after) → IfSome made (HasVectorBelow after n)
made_vector n after es None rows bag low = tt
made_vector n after es (Some k) rows bag low = record { marks = bag.1.0; held = bag.1.3; low = low.vector }

pub some_kept : (after : ℕ) (n : Contents) (ks : List Container) (made : Option Container) → IfSome made (HasVectorBelow after n) → IfSome made (IsKeptOrHasVector after n ks)
some_kept after n ks None has = tt
some_kept after n ks (Some k) has = inr has

pub kept_later : (m n : Contents) (after end : ℕ) (ks : List Container) (k : Container) → after ≤ end → Changed (DataFrom after) NoName m n → IsKeptOrHasVector after m ks k → IsKeptOrHasVector end n ks k
kept_later m n after end ks k le changed (inl same) = inl same
kept_later m n after end ks k le changed (inr has) = inr (vector_later m n after end k le changed has)

-- containers whose vectors are there, and one more that was written behind them
pub written_vectors : {D : Type 0} (disk : Ghosts D) {mid new : D} (after end columns : ℕ) (es : List Written) (ks js : List Container) (made : Option Container) (rows : List Stamped) → AreNumbered columns after end made → Moved disk (DataFrom after) NoName mid new
    → ((m : Contents) → disk.holds mid ≡ Some m → All (IsKeptOrHasVector after m ks) js) → ((m : Contents) → disk.holds new ≡ Some m → HoldsBag m es (listed made) rows) → (n : Contents) → disk.holds new ≡ Some n → HaveVectors end n ks js made
written_vectors disk after end columns es ks js made rows numbers moved was bag n told =
    let (m, told_m, changed) = moved_back disk n told moved in
    let rise : after ≤ end = numbers_rise columns after end made numbers in
    record {
      each = All-weaker (IsKeptOrHasVector after m ks) (IsKeptOrHasVector end n ks) (λ k kept. kept_later m n after end ks k rise changed kept) js (was m told_m);
      last = made_vector n end es made rows (bag n told) (made_all_below columns after end made numbers);
    }

pub entry_vectors : {D : Type 0} (disk : Ghosts D) {mid new : D} (last after end columns : ℕ) (es : List Written) (old entry : Projection) (js : List Container) (made : Option Container) (rows : List Stamped) → entry ≡ moved_to last js made old
    → AreNumbered columns after end made → Moved disk (DataFrom after) NoName mid new → ((m : Contents) → disk.holds mid ≡ Some m → AllZip (KeepsOrHasVector after m) old.containers js) → ((m : Contents) → disk.holds new ≡ Some m → HoldsBag m es (listed made) rows)
    → (n : Contents) → disk.holds new ≡ Some n → All (IsKeptOrHasVector end n old.containers) entry.containers
entry_vectors disk last after end columns es old entry js made rows is numbers moved was bag n told =
    let have = written_vectors disk after end columns es old.containers js made rows numbers moved (λ m told_m. all_kept after m old.containers js (was m told_m)) bag n told in
    subst (λ (e : Projection). All (IsKeptOrHasVector end n old.containers) e.containers) (sym is)
    (all_listed (IsKeptOrHasVector end n old.containers) js made have.each (some_kept end n old.containers made have.last))

-- ---- which file is blamed where such containers are read

no_vector : (m : Contents) (k : Container) (q : ℕ) (marks : List Mark) (o : Option ℕ) → HoldsVectorAt m k o marks → IsNoVectorAt k (Some m) q o → ⊥
no_vector m k q marks None held none = none
no_vector m k q marks (Some number) held none = none.1 m refl marks held

-- it is that of one of those that were there
pub kept_blamed : (after : ℕ) (m : Contents) (ks js : List Container) (f : StoreFault) → All (IsKeptOrHasVector after m ks) js → BlamesLoad js (Some m) f → BlamesLoad ks (Some m) f
kept_blamed after m ks js (Damaged q) kept (i, k, lt, is, blames) = found (subst (IsKeptOrHasVector after m ks) is (kept i k lt))
  where
    found : IsKeptOrHasVector after m ks k → Any (λ x. BlamesVector x (Some m) (Damaged q)) ks
    found (inl (c, below, same)) = (c, k, below, same, blames)
    found (inr has) = absurd (no_vector m k q has.marks k.marks has.held blames)
kept_blamed after m ks js Disk kept blames = tt
kept_blamed after m ks js Memory kept blames = tt
