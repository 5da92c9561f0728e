-- Containers that are cut one after the other.
use Rattle.std.proofs.Common.{◌≡◌, ℕ, ◌+◌, ◌*◌, ◌≤◌, ◌<◌, ◌++◌, List, [], ◌∷◌, length, take, get_or, Option, Some, None, refl, sym, ap, ◌∙◌, subst, append_assoc, arith}
use Rattle.std.specs.Prelude.{IfSome}
use Rattle.std.specs.List.{All}
use Rattle.std.proofs.lemmas.List.{take_more, take_all, get_or_default}
use Rattle.std.proofs.lemmas.List.Elements.{All-cons, All-nil, All-weaker, All-append, All-contains}
use Rattle.common_laws.specs.Bags.{SameBag}
use Rattle.common_laws.specs.Maps.{Contents}
use Rattle.common_laws.proofs.BagLaws.{bag_refl, bag_append}
use Rattle.col_disk.specs.Moved.{Changed, Moved, NoName, Named}
use Rattle.col_disk.specs.declared.disk.Disk.{Ghosts}
use Rattle.col_disk.proofs.Moving.{changed_kept, moved_told}
use Rattle.col_value.specs.declared.row.Asked.{Asked}
use Rattle.col_value.specs.declared.row.Stamped.{Stamped}
use Rattle.row_history.specs.History.{cut_rows}
use Rattle.row_history.proofs.Histories.{cut_append}
use Rattle.catalog_types.specs.Blank.{blank_container}
use Rattle.catalog_types.specs.declared.catalogue.Container.{Container}
use Rattle.catalog_types.specs.declared.catalogue.ProjColumn.{ProjColumn}
use Rattle.catalog_types.specs.declared.catalogue.Projection.{Projection}
use Rattle.ros_container.specs.Encodings.{Written, written_of}
use Rattle.ros_container.specs.Held.{HoldsContainer}
use Rattle.del_vector.specs.declared.mark.Mark.{Mark}
use Rattle.del_vector.specs.Marks.{epoch_at, marks_upto}
use Rattle.stored_rows.specs.Listed.{vector_file, SameFiles}
use Rattle.stored_rows.specs.Held.{HoldsVector, HoldsRows, stamped_from}
use Rattle.stored_rows.proofs.OneList.{OneContainer}
use Rattle.container_writer.specs.Writing.{listed, DataFrom, HoldsBag, with_vector}
use Rattle.container_cut.specs.Listed.{IsBelow}
use Rattle.container_cut.specs.Cutting.{CutsContainers, Between}
use Rattle.container_cut.proofs.Below.{SameBelow, below_data, container_same, containers_later, moved_between}
use Rattle.container_cut.proofs.Faults.{rows_same}
use Rattle.container_cut.proofs.Cuts.{between_same, cuts_same, cuts_marks, cuts_inserts}

-- rows of containers behind others
rows_join : (n : Contents) (es : List Written) (js hs : List Container) (xs ys : List Stamped) → HoldsRows n es js xs → HoldsRows n es hs ys → HoldsRows n es (js ++ hs) (xs ++ ys)
rows_join n es [] hs xs ys first second = subst (λ (r : List Stamped). HoldsRows n es hs (r ++ ys)) (sym first) second
rows_join n es (j ∷ js) hs xs ys (v, here, more, vector, marked, rest, is) second =
    (v, here, more ++ ys, vector, marked, rows_join n es js hs more ys rest second, ap (λ (r : List Stamped). r ++ ys) is ∙ append_assoc here more ys)

record SplitsRows (m : Contents) (es : List Written) (js hs : List Container) (rows : List Stamped) : Type 0 where
  front : List Stamped
  behind : List Stamped
  first : HoldsRows m es js front
  second : HoldsRows m es hs behind
  are : rows ≡ front ++ behind

rows_split : (m : Contents) (es : List Written) (js hs : List Container) (rows : List Stamped) → HoldsRows m es (js ++ hs) rows → SplitsRows m es js hs rows
rows_split m es [] hs rows held = record { front = []; behind = rows; first = refl; second = held; are = refl }
rows_split m es (j ∷ js) hs rows (v, here, more, vector, marked, rest, is) =
    let k = rows_split m es js hs more rest in
    record {
      front = here ++ k.front;
      behind = k.behind;
      first = (v, here, k.front, vector, marked, k.first, refl);
      second = k.second;
      are = is ∙ ap (λ (r : List Stamped). here ++ r) k.are ∙ sym (append_assoc here k.front k.behind);
    }

join : (m l n : Contents) (p : Projection) (epoch : ℕ) (ks : List Container) (k : Container) (js hs : List Container) → SameFiles m l k → All (SameFiles l n) js
    → CutsContainers (written_of p) epoch ks js m l → CutsContainers (written_of p) epoch (k ∷ []) hs l n → CutsContainers (written_of p) epoch (ks ++ k ∷ []) (js ++ hs) m n
join m l n p epoch ks k js hs before after first second old held =
    let es = written_of p in
    let s = rows_split m es ks (k ∷ []) old held in
    let a = first s.front s.first in
    let b = second s.behind (rows_same m l p (k ∷ []) s.behind (All-cons (SameFiles m l) k [] before (All-nil (SameFiles m l))) s.second) in (
      a.0 ++ b.0,
      rows_join n es js hs a.0 b.0 (rows_same l n p js a.0 after a.1) b.1,
      subst (SameBag (a.0 ++ b.0)) (sym (cut_append epoch s.front s.behind) ∙ ap (cut_rows epoch) (sym s.are)) (bag_append a.0 b.0 (cut_rows epoch s.front) (cut_rows epoch s.behind) a.2 b.2),
    )

pub containers_more : {D : Type 0} (disk : Ghosts D) {old mid new : D} (p : Projection) (epoch first next : ℕ) (ks : List Container) (i : ℕ) (k : Container) (js more hs : List Container)
    → i < length ks → k ≡ get_or ks i k → more ≡ js ++ hs → All (IsBelow first p.columns) ks → All (IsBelow next p.columns) js
    → Moved disk (DataFrom first) NoName old mid → Moved disk (DataFrom next) NoName mid new
    → Between (CutsContainers (written_of p) epoch (take i ks) js) (disk.holds old) (disk.holds mid) → Between (CutsContainers (written_of p) epoch (k ∷ []) hs) (disk.holds mid) (disk.holds new)
    → Between (CutsContainers (written_of p) epoch (take (i + 1) ks) more) (disk.holds old) (disk.holds new)
containers_more disk {old} {mid} {new} p epoch first next ks i k js more hs lt k_is more_is below written moved again done here m n before after =
    let (l, told, changed) = moved_told disk m before moved in
    let later = moved_between disk l n told after again in
    let low : IsBelow first p.columns k = All-contains (IsBelow first p.columns) ks k below (i, lt, sym k_is) in
    let one = container_same m l first p.columns k (below_data m l first changed) low in
    let all : All (SameFiles l n) js =
    All-weaker (IsBelow next p.columns) (SameFiles l n) (λ j h. container_same l n next p.columns j (below_data l n next later) h) js written in
    subst (λ (xs : List Container). CutsContainers (written_of p) epoch xs more m n) (sym (take_more ks i k lt ∙ ap (λ (x : Container). take i ks ++ x ∷ []) (sym k_is)))
    (subst (λ (ys : List Container). CutsContainers (written_of p) epoch (take i ks ++ k ∷ []) ys m n) (sym more_is)
    (join m l n p epoch (take i ks) k js hs one all (done m l before told) (here l n told after)))

-- before the first one
pub containers_none : (es : List Written) (epoch : ℕ) (found left : Option Contents) (js : List Container) → js ≡ [] → Between (CutsContainers es epoch [] js) found left
containers_none es epoch found left js none m n before after old held =
    ([], subst (λ (xs : List Container). HoldsRows n es xs []) (sym none) refl, subst (λ (xs : List Stamped). SameBag [] (cut_rows epoch xs)) (sym held) (bag_refl []))

-- behind the last one
pub containers_all : (es : List Written) (epoch : ℕ) (ks : List Container) (i : ℕ) (js : List Container) (found left : Option Contents) → length ks ≤ i
    → Between (CutsContainers es epoch (take i ks) js) found left → Between (CutsContainers es epoch ks js) found left
containers_all es epoch ks i js found left past done = subst (λ (xs : List Container). Between (CutsContainers es epoch xs js) found left) (take_all i ks past) done

-- ---- one container between two moments

named_same : (m n : Contents) (next : ℕ) → Changed (Named (vector_file next)) NoName m n → SameBelow next m n
named_same m n next changed j lt = changed_kept (Named (vector_file next)) NoName m n (4 * j) (λ is. omega (arith, lt, is)) (λ is. is) changed

pub marks_between : {D : Type 0} (disk : Ghosts D) {old mid new : D} (p : Projection) (epoch next : ℕ) (k after : Container) (marks left : List Mark) → k.greatest_epoch ≤ epoch → IsBelow next p.columns k
    → disk.holds mid ≡ disk.holds old → Moved disk (Named (vector_file next)) NoName mid new → ((m : Contents) → disk.holds old ≡ Some m → HoldsVector m k marks) → left ≡ marks_upto epoch marks
    → after ≡ with_vector next left k → ((m : Contents) → disk.holds new ≡ Some m → HoldsVector m after left)
    → Between (CutsContainers (written_of p) epoch (k ∷ []) (after ∷ [])) (disk.holds old) (disk.holds new)
marks_between disk p epoch next k after marks left inserted below kept moved vector left_is is written m n before now =
    let same = named_same m n next (moved_between disk m n (kept ∙ before) now moved) in
    subst (λ (x : Container). CutsContainers (written_of p) epoch (k ∷ []) (x ∷ []) m n) (sym is)
    (cuts_marks m n p epoch next k marks left inserted below same (vector m before) left_is (subst (λ (x : Container). HoldsVector n x left) is (written n now)))

pub inserts_between : OneContainer → (es : List Written) (epoch : ℕ) (k : Container) (o : Option Container) (marks : List Mark) (asked : List Asked) (left : List Stamped) (found mid now : Option Contents) → k.stored ≤ length es
    → IfSome o (λ j. j.stored ≡ k.stored)
    → ((m : Contents) → found ≡ Some m → HoldsVector m k marks) → mid ≡ found → ((m : Contents) → mid ≡ Some m → HoldsContainer m (take k.stored es) k asked)
    → left ≡ cut_rows epoch (stamped_from 0 (epoch_at marks) asked) → ((n : Contents) → now ≡ Some n → HoldsBag n (take k.stored es) (listed o) left) → Between (CutsContainers es epoch (k ∷ []) (listed o)) found now
inserts_between one es epoch k o marks asked left found mid now le stored vector kept read left_is bag m n before after =
    cuts_inserts one m n es epoch k o marks asked left le stored (vector m before) (read m (kept ∙ before)) left_is (bag n after)

pub same_between : (es : List Written) (epoch : ℕ) (k : Container) (told : Option Contents) → k.greatest_epoch ≤ epoch → k.greatest_mark ≤ epoch → Between (CutsContainers es epoch (k ∷ []) (k ∷ [])) told told
same_between es epoch k told inserted marked = between_same (CutsContainers es epoch (k ∷ []) (k ∷ [])) told told refl (λ m. cuts_same es epoch k m inserted marked)

-- ---- at a place

-- the container at a place
abbrev pub item : List Container → ℕ → Container
item ks i = get_or ks i blank_container

pub item_is : (ks : List Container) (i : ℕ) → i < length ks → item ks i ≡ get_or ks i (item ks i)
item_is ks i lt = get_or_default ks i _ (item ks i) lt

pub at_place : {X : Type 0} (P : X → Type 0) (xs : List X) (i : ℕ) (x : X) → i < length xs → x ≡ get_or xs i x → All P xs → P x
at_place P xs i x lt is all = All-contains P xs x all (i, lt, sym is)

-- the numbers of what was kept, after one more
pub below_more : (free next : ℕ) (columns : List ProjColumn) (js hs more : List Container) → free ≤ next → more ≡ js ++ hs → All (IsBelow free columns) js → All (IsBelow next columns) hs → All (IsBelow next columns) more
below_more free next columns js hs more le is before here = subst (All (IsBelow next columns)) (sym is) (All-append (IsBelow next columns) js hs (containers_later free next columns js le before) here)
