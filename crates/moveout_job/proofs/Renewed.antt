-- Containers with new delete vectors, one after the other.
use Rattle.std.proofs.Common.{◌≡◌, ◌+◌, ◌<◌, ◌≤◌, ◌^◌, ◌++◌, ℕ, zero, suc, List, [], ◌∷◌, length, take, get_or, refl, sym, ◌∙◌, ap, ap₂, subst, arith, inl, inr, append_assoc}
use Rattle.std.specs.Prelude.{◌⊎◌, Option, Some, None, IfSome, IsSomeAnd}
use Rattle.std.specs.Option.{option_or}
use Rattle.std.specs.List.{All, AllZip, slice_get}
use Rattle.std.specs.FinMap.{get}
use Rattle.std.proofs.lemmas.List.{append-nil, take_more, take_all}
use Rattle.std.proofs.lemmas.List.Elements.{All-cons, All-head, All-tail, All-push, All-weaker}
use Rattle.common_laws.specs.Maps.{Contents}
use Rattle.col_disk.specs.Calls.{Stepped}
use Rattle.col_disk.specs.Moved.{Changed, Moved, NoName, Named}
use Rattle.col_disk.specs.declared.disk.Disk.{Ghosts}
use Rattle.col_disk.proofs.Moving.{moved_told, moved_wider, changed_kept}
use Rattle.col_value.specs.declared.row.Asked.{Asked}
use Rattle.col_value.specs.declared.row.Stamped.{Stamped}
use Rattle.row_history.specs.History.{stamped}
use Rattle.catalog_types.specs.declared.catalogue.Container.{Container}
use Rattle.ros_container.specs.Encodings.{Written}
use Rattle.ros_container.specs.Held.{HoldsContainer}
use Rattle.ros_container.proofs.Kept.{rows_kept}
use Rattle.del_vector.specs.declared.mark.Mark.{Mark}
use Rattle.del_vector.specs.Marks.{epoch_at}
use Rattle.stored_rows.specs.Held.{HoldsVector, HoldsMarked, HoldsRows, stamped_from}
use Rattle.stored_rows.specs.Listed.{vector_file, IsVectorFile, SameFiles}
use Rattle.stored_rows.specs.Stored.{Beside, Projected, mark_in, StoresRows}
use Rattle.std.proofs.lemmas.Slice.Zip.{AllZip-long}
use Rattle.proj_store.specs.Sound.{MarksItsRows, IsSound}
use Rattle.stored_rows.proofs.KeptRows.{vector_kept}
use Rattle.container_writer.specs.Writing.{DataFrom, with_vector, vector_number}
use Rattle.moveout_job.specs.OnDisk.{IsBelow, IsNewNumber, IsRemarked, Remarks, RemarksEach, beside}

-- ---- files that stay

pub between : {D : Type 0} (disk : Ghosts D) {W R : ℕ → Type 0} {old new : D} (m n : Contents) → disk.holds old ≡ Some m → disk.holds new ≡ Some n → Moved disk W R old new → Changed W R m n
between disk {W} {R} {old} {new} m n before after moved =
    subst (λ (o : Option Contents). Stepped (Changed W R) (Some m) o) after
    (subst (λ (o : Option Contents). Stepped (Changed W R) o (disk.holds new)) before moved.contents)

pub later_data : {D : Type 0} (disk : Ghosts D) {old new : D} (base next : ℕ) → base ≤ next → Moved disk (DataFrom next) NoName old new → Moved disk (DataFrom base) NoName old new
later_data disk base next le moved = moved_wider disk (λ q f. let from = f.1 in (f.0, omega (arith, le, from), f.2)) (λ q is. is) moved

pub vector_data : {D : Type 0} (disk : Ghosts D) {old new : D} (next : ℕ) → Moved disk (Named (vector_file next)) NoName old new → Moved disk (DataFrom next) NoName old new
vector_data disk next moved = moved_wider disk (λ q is. (next, omega arith, is)) (λ q is. is) moved

pub same_below : (m n : Contents) (next : ℕ) (k : Container) → IsBelow next k → Changed (DataFrom next) NoName m n → SameFiles m n k
same_below m n next k below changed q (inl f) =
    let within = f.1 in
    let is = f.2 in
    let files = below.files in
    changed_kept (DataFrom next) NoName m n q (λ d. let from = d.1 in let same = d.2 in omega (arith, within, is, files, from, same)) (λ x. x) changed
same_below m n next k below changed q (inr v) = by k.marks below.vector v
  where
    by : (o : Option ℕ) → IfSome o (λ x. x < next) → IsVectorFile o q → get n q ≡ get m q
    by None low is = absurd is
    by (Some x) low is = changed_kept (DataFrom next) NoName m n q (λ d. let from = d.1 in let same = d.2 in omega (arith, low, is, from, same)) (λ x. x) changed

pub marked_kept : (m n : Contents) (es : List Written) (k : Container) (mark : ℕ → Option ℕ) (rows : List Stamped) → SameFiles m n k → HoldsMarked m es k mark rows → HoldsMarked n es k mark rows
marked_kept m n es k mark rows same (asked, held, is) = (asked, rows_kept m n es k asked (λ q f. same q (inl f)) held, is)

pub rows_below : (m n : Contents) (es : List Written) (ks : List Container) (rows : List Stamped) (next : ℕ) → All (IsBelow next) ks → Changed (DataFrom next) NoName m n → HoldsRows m es ks rows → HoldsRows n es ks rows
rows_below m n es [] rows next below changed held = held
rows_below m n es (k ∷ ks) rows next below changed (v, here, more, vector, marked, rest, is) =
    let same = same_below m n next k (All-head (IsBelow next) k ks below) changed in
    (v, here, more, vector_kept m n k v same vector, marked_kept m n es k (epoch_at v) here same marked, rows_below m n es ks more next (All-tail (IsBelow next) k ks below) changed rest, is)

pub rows_join : (m : Contents) (es : List Written) (ks js : List Container) (xs ys : List Stamped) → HoldsRows m es ks xs → HoldsRows m es js ys → HoldsRows m es (ks ++ js) (xs ++ ys)
rows_join m es [] js xs ys held others = subst (λ (zs : List Stamped). HoldsRows m es js (zs ++ ys)) (sym held) others
rows_join m es (k ∷ ks) js xs ys (v, here, more, vector, marked, rest, is) others =
    (v, here, more ++ ys, vector, marked, rows_join m es ks js more ys rest others, ap (λ (zs : List Stamped). zs ++ ys) is ∙ append_assoc here more ys)

pub wider_below : (next after : ℕ) (k : Container) → next ≤ after → IsBelow next k → IsBelow after k
wider_below next after k le below = record { files = let files = below.files in omega (arith, files, le); vector = by k.marks below.vector }
  where
    by : (o : Option ℕ) → IfSome o (λ x. x < next) → IfSome o (λ x. x < after)
    by None low = tt
    by (Some x) low = omega (arith, low, le)

-- ---- one container

pub stamped_same : (i : ℕ) (one other : ℕ → Option ℕ) (rows : List Asked) → ((j : ℕ) → one j ≡ other j) → stamped_from i one rows ≡ stamped_from i other rows
stamped_same i one other [] same = refl
stamped_same i one other (a ∷ rows) same = ap₂ (λ (d : Option ℕ) (ss : List Stamped). stamped d a ∷ ss) (same i) (stamped_same (i + 1) one other rows same)

pub or_none : (o : Option ℕ) → option_or o None ≡ o
or_none None = refl
or_none (Some e) = refl

pub unmarked : (next : ℕ) (k : Container) (held fresh : List Mark) (found left : Option Contents) → left ≡ found → length fresh ≡ 0 → Remarks next next k (beside held fresh) k found left
unmarked next k held (e ∷ fresh) found left same none m es rows told below vector marked = absurd (omega (arith, none))
unmarked next k held [] found left same none m es rows told below vector (asked, container, is) =
    (m, same ∙ told, (held, vector, (asked, container, is ∙ stamped_same 0 (mark_in (beside held [])) (epoch_at held) asked (λ i. or_none (epoch_at held i)))), below)

other_vector : (n : Contents) (es : List Written) (number : ℕ) (marks : List Mark) (k j : Container) (rows : List Asked) → j ≡ with_vector number marks k → HoldsContainer n es k rows → HoldsContainer n es j rows
other_vector n es number marks k j rows is held =
    subst (λ (x : Container). HoldsContainer n es x rows) (sym is) (record { each = held.each; defaults = held.defaults; epochs = held.epochs; wide = held.wide; within = held.within })

pub number_below : (next : ℕ) (marks : List Mark) → IfSome (vector_number next marks) (λ n. n < next + 1)
number_below next [] = tt
number_below next (e ∷ marks) = omega arith

number_drawn : (next : ℕ) (marks : List Mark) → next < 2 ^ 61 → IfSome (vector_number next marks) (IsNewNumber next (next + 1))
number_drawn next [] low = tt
number_drawn next (e ∷ marks) low = record { from = omega arith; upto = omega arith; low = omega (arith, low) }

pub marked_anew : {D : Type 0} (disk : Ghosts D) {old new : D} (next : ℕ) (k j : Container) (held fresh marks : List Mark) → ((i : ℕ) → epoch_at marks i ≡ option_or (epoch_at held i) (epoch_at fresh i)) → j ≡ with_vector next marks k
    → ((m : Contents) → disk.holds new ≡ Some m → HoldsVector m j marks) → Moved disk (Named (vector_file next)) NoName old new → Remarks next (next + 1) k (beside held fresh) j (disk.holds old) (disk.holds new)
marked_anew disk {old} {new} next k j held fresh marks epochs is vector moved m es rows told below was (asked, container, are) =
    let left = moved_told disk m told moved in
    let n = left.0 in
    let changed : Changed (DataFrom next) NoName m n = between disk m n told left.1 (vector_data disk next moved) in
    let same = same_below m n next k below changed in
    let kept = other_vector n es next marks k j asked is (rows_kept m n es k asked (λ q f. same q (inl f)) container) in
    let files = below.files in (
      n,
      left.1,
      (marks, vector n left.1, (asked, kept, are ∙ stamped_same 0 (mark_in (beside held fresh)) (epoch_at marks) asked (λ i. sym (epochs i)))),
      subst (IsBelow (next + 1)) (sym is) (record { files = omega (arith, files); vector = number_below next marks }),
    )

pub same_entry : (next : ℕ) (k : Container) → IsRemarked next next k k
same_entry next k = record { base = refl; rows = refl; level = refl; stored = refl; marks = inl (refl, refl) }

pub new_entry : (next : ℕ) (k j : Container) (marks : List Mark) → next < 2 ^ 61 → j ≡ with_vector next marks k → IsRemarked next (next + 1) k j
new_entry next k j marks low is = subst (IsRemarked next (next + 1) k) (sym is) (record { base = refl; rows = refl; level = refl; stored = refl; marks = inr (number_drawn next marks low) })

-- ---- one container more

-- of a list the front, and the last
pub all_front : {X : Type 0} (P : X → Type 0) (xs : List X) (y : X) → All P (xs ++ y ∷ []) → All P xs
all_front P [] y all = λ j d lt. absurd (omega (arith, lt))
all_front P (x ∷ xs) y all = All-cons P x xs (All-head P x (xs ++ y ∷ []) all) (all_front P xs y (All-tail P x (xs ++ y ∷ []) all))

pub all_last : {X : Type 0} (P : X → Type 0) (xs : List X) (y : X) → All P (xs ++ y ∷ []) → P y
all_last P [] y all = All-head P y [] all
all_last P (x ∷ xs) y all = all_last P xs y (All-tail P x (xs ++ y ∷ []) all)

-- the rows of some containers, and those of the last one
pub record Parts (m : Contents) (es : List Written) (ks : List Container) (bs : List Beside) (k : Container) (b : Beside) (rows : List Stamped) : Type 0 where
  pub front : List Stamped
  pub last : List Stamped
  pub before : StoresRows m es ks bs front
  pub vector : HoldsVector m k b.held
  pub marked : HoldsMarked m es k (mark_in b) last
  pub are : rows ≡ front ++ last

pub parted : (m : Contents) (es : List Written) (ks : List Container) (bs : List Beside) (k : Container) (b : Beside) (rows : List Stamped) → StoresRows m es (ks ++ k ∷ []) (bs ++ b ∷ []) rows → Parts m es ks bs k b rows
parted m es [] [] k b rows (here, more, vector, marked, rest, is) = record {
  front = [];
  last = here;
  before = refl;
  vector = vector;
  marked = marked;
  are = is ∙ ap (λ (zs : List Stamped). here ++ zs) rest ∙ append-nil here;
}
parted m es [] (c ∷ []) k b rows (here, more, vector, marked, rest, is) = absurd rest
parted m es [] (c ∷ d ∷ bs) k b rows (here, more, vector, marked, rest, is) = absurd rest
parted m es (j ∷ []) [] k b rows (here, more, vector, marked, rest, is) = absurd rest
parted m es (j ∷ i ∷ ks) [] k b rows (here, more, vector, marked, rest, is) = absurd rest
parted m es (j ∷ ks) (c ∷ bs) k b rows (here, more, vector, marked, rest, is) =
    let p = parted m es ks bs k b more rest in record {
      front = here ++ p.front;
      last = p.last;
      before = (here, p.front, vector, marked, p.before, refl);
      vector = p.vector;
      marked = p.marked;
      are = is ∙ ap (λ (zs : List Stamped). here ++ zs) p.are ∙ sym (append_assoc here p.front p.last);
    }

pub each_none : (es : List Written) (next : ℕ) (found : Option Contents) → RemarksEach es next next [] [] [] found found
each_none es next found m rows told below stores = (m, told, record { held = stores; below = λ j d lt. absurd (omega (arith, lt)) })

pub each_more : {D : Type 0} (disk : Ghosts D) {old mid new : D} (es : List Written) (next after end : ℕ) (ks js : List Container) (bs : List Beside) (k j : Container) (b : Beside) → next ≤ after → after ≤ end
    → Moved disk (DataFrom next) NoName old mid → Moved disk (DataFrom after) NoName mid new → RemarksEach es next after ks bs js (disk.holds old) (disk.holds mid) → Remarks after end k b j (disk.holds mid) (disk.holds new)
    → RemarksEach es next end (ks ++ k ∷ []) (bs ++ b ∷ []) (js ++ j ∷ []) (disk.holds old) (disk.holds new)
each_more disk es next after end ks js bs k j b le lt first second was one m rows told below stores =
    let p = parted m es ks bs k b rows stores in
    let low_k : IsBelow next k = all_last (IsBelow next) ks k below in
    let (l, told_l, held_l) = was m p.front told (all_front (IsBelow next) ks k below) p.before in
    let same = same_below m l next k low_k (between disk m l told told_l first) in
    let (n, told_n, one_n, low_j) = one l es p.last told_l (wider_below next after k le low_k) (vector_kept m l k b.held same p.vector) (marked_kept m l es k (mark_in b) p.last same p.marked) in
    let changed = between disk l n told_l told_n second in (
      n,
      told_n,
      record {
        held = subst (HoldsRows n es (js ++ j ∷ [])) (sym p.are)
            (rows_join n es js (j ∷ []) p.front p.last (rows_below l n es js p.front after held_l.below changed held_l.held) (one_n.0, p.last, [], one_n.1, one_n.2, refl, sym (append-nil p.last)));
        below = All-push (IsBelow end) js j (All-weaker (IsBelow after) (IsBelow end) (λ x low. wider_below after end x lt low) js held_l.below) low_j;
      },
    )

pub zip_push : {A B : Type 0} (R : A → B → Type 0) (xs : List A) (ys : List B) (x : A) (y : B) → AllZip R xs ys → R x y → AllZip R (xs ++ x ∷ []) (ys ++ y ∷ [])
zip_push R [] [] x y all one = (one, tt)
zip_push R [] (b ∷ ys) x y all one = absurd all
zip_push R (a ∷ xs) [] x y all one = absurd all
zip_push R (a ∷ xs) (b ∷ ys) x y all one = (all.0, zip_push R xs ys x y all.1 one)

pub zip_weaker : {A B : Type 0} (R S : A → B → Type 0) → ((x : A) (y : B) → R x y → S x y) → (xs : List A) (ys : List B) → AllZip R xs ys → AllZip S xs ys
zip_weaker R S f [] [] all = all
zip_weaker R S f [] (b ∷ ys) all = absurd all
zip_weaker R S f (a ∷ xs) [] all = absurd all
zip_weaker R S f (a ∷ xs) (b ∷ ys) all = (f a b all.0, zip_weaker R S f xs ys all.1)

pub drawn_wider : (next after low end n : ℕ) → low ≤ next → after ≤ end → IsNewNumber next after n → IsNewNumber low end n
drawn_wider next after low end n le lt is = record { from = let from = is.from in omega (arith, from, le); upto = let upto = is.upto in omega (arith, upto, lt); low = is.low }

pub remarked_wider : (next after low end : ℕ) (k j : Container) → low ≤ next → after ≤ end → IsRemarked next after k j → IsRemarked low end k j
remarked_wider next after low end k j le lt is = record { base = is.base; rows = is.rows; level = is.level; stored = is.stored; marks = by is.marks }
  where
    of : (o : Option ℕ) → IfSome o (IsNewNumber next after) → IfSome o (IsNewNumber low end)
    of None drawn = tt
    of (Some n) drawn = drawn_wider next after low end n le lt drawn

    by : ((j.marks ≡ k.marks) × (j.greatest_mark ≡ k.greatest_mark)) ⊎ IfSome j.marks (IsNewNumber next after) → ((j.marks ≡ k.marks) × (j.greatest_mark ≡ k.greatest_mark)) ⊎ IfSome j.marks (IsNewNumber low end)
    by (inl same) = inl same
    by (inr drawn) = inr (of j.marks drawn)

-- ---- one turn of the loop

pub beside_within : (p : Projected) (shown : List Container) (i : ℕ) → shown ≡ p.entry.containers → IsSound p.entry p.beside → i < length shown → i < length p.beside
beside_within p shown i same sound lt = omega (arith, lt, ap length same, AllZip-long MarksItsRows p.entry.containers p.beside sound.kept)

pub at_slice : {X : Type 0} (P : X → Type 0) (xs : List X) (i : ℕ) (d : X) → IsSomeAnd (slice_get xs i) P → P (get_or xs i d)
at_slice P [] i d is = absurd is
at_slice P (x ∷ xs) zero d is = is
at_slice P (x ∷ xs) (suc i) d is = at_slice P xs i d is

pub turn : {D : Type 0} (disk : Ghosts D) {old mid new : D} (es : List Written) (next after end i : ℕ) (shown ks js out : List Container) (bs : List Beside) (k j : Container) (held fresh : List Mark) → shown ≡ ks → i < length shown → i < length bs
    → k ≡ get_or shown i k → IsSomeAnd (slice_get bs i) (λ b. held ≡ b.held) → IsSomeAnd (slice_get bs i) (λ b. fresh ≡ b.fresh) → out ≡ js ++ j ∷ [] → next ≤ after → after ≤ end
    → Moved disk (DataFrom next) NoName old mid → Moved disk (DataFrom after) NoName mid new → RemarksEach es next after (take i ks) (take i bs) js (disk.holds old) (disk.holds mid)
    → Remarks after end k (beside held fresh) j (disk.holds mid) (disk.holds new) → RemarksEach es next end (take (i + 1) ks) (take (i + 1) bs) out (disk.holds old) (disk.holds new)
turn disk {old} {mid} {new} es next after end i shown ks js out bs k j held fresh same lt also k_is held_is fresh_is out_is le up first second was one =
    let d : Beside = beside held fresh in
    let b : Beside = get_or bs i d in
    let b_is : d ≡ b = ap₂ beside (at_slice (λ c. held ≡ c.held) bs i d held_is) (at_slice (λ c. fresh ≡ c.fresh) bs i d fresh_is) in
    let inside : i < length ks = omega (arith, lt, ap length same) in
    let here : k ≡ get_or ks i k = subst (λ (xs : List Container). k ≡ get_or xs i k) same k_is in
    let ks_next : take (i + 1) ks ≡ take i ks ++ k ∷ [] = take_more ks i k inside ∙ ap (λ (x : Container). take i ks ++ x ∷ []) (sym here) in
    let bs_next : take (i + 1) bs ≡ take i bs ++ d ∷ [] = take_more bs i d also ∙ ap (λ (x : Beside). take i bs ++ x ∷ []) (sym b_is) in
    subst (λ (xs : List Container). RemarksEach es next end xs (take (i + 1) bs) out (disk.holds old) (disk.holds new)) (sym ks_next)
    (subst (λ (cs : List Beside). RemarksEach es next end (take i ks ++ k ∷ []) cs out (disk.holds old) (disk.holds new)) (sym bs_next)
    (subst (λ (ys : List Container). RemarksEach es next end (take i ks ++ k ∷ []) (take i bs ++ d ∷ []) ys (disk.holds old) (disk.holds new)) (sym out_is)
    (each_more disk es next after end (take i ks) js (take i bs) k j d le up first second was one)))

pub entry_more : (next after end i : ℕ) (shown ks js out : List Container) (k j : Container) → shown ≡ ks → i < length shown → k ≡ get_or shown i k → out ≡ js ++ j ∷ [] → next ≤ after → after ≤ end
    → AllZip (IsRemarked next after) (take i ks) js → IsRemarked after end k j → AllZip (IsRemarked next end) (take (i + 1) ks) out
entry_more next after end i shown ks js out k j same lt k_is out_is le up each one =
    let inside : i < length ks = omega (arith, lt, ap length same) in
    let here : k ≡ get_or ks i k = subst (λ (xs : List Container). k ≡ get_or xs i k) same k_is in
    let ks_next : take (i + 1) ks ≡ take i ks ++ k ∷ [] = take_more ks i k inside ∙ ap (λ (x : Container). take i ks ++ x ∷ []) (sym here) in
    subst (λ (xs : List Container). AllZip (IsRemarked next end) xs out) (sym ks_next)
    (subst (AllZip (IsRemarked next end) (take i ks ++ k ∷ [])) (sym out_is)
    (zip_push (IsRemarked next end) (take i ks) js k j
    (zip_weaker (IsRemarked next after) (IsRemarked next end) (λ x y is. remarked_wider next after next end x y (omega arith) up is) (take i ks) js each) (remarked_wider after end next end k j le (omega arith) one)))

pub each_all : (es : List Written) (next after i : ℕ) (shown js : List Container) (p : Projected) (found left : Option Contents) → shown ≡ p.entry.containers → IsSound p.entry p.beside → length shown ≤ i
    → RemarksEach es next after (take i p.entry.containers) (take i p.beside) js found left → RemarksEach es next after p.entry.containers p.beside js found left
each_all es next after i shown js p found left same sound done each =
    let past : length p.entry.containers ≤ i = omega (arith, done, ap length same) in
    let also : length p.beside ≤ i = omega (arith, done, ap length same, AllZip-long MarksItsRows p.entry.containers p.beside sound.kept) in
    subst (λ (ks : List Container). RemarksEach es next after ks p.beside js found left) (take_all i p.entry.containers past)
    (subst (λ (bs : List Beside). RemarksEach es next after (take i p.entry.containers) bs js found left) (take_all i p.beside also) each)
