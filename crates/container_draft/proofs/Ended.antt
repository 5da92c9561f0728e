-- The container that a draft became.
use Rattle.std.proofs.Common.{◌≡◌, ℕ, suc, ◌+◌, ◌*◌, ◌≤◌, ◌<◌, ◌^◌, List, [], ◌∷◌, length, map, take, get_or, min, max, refl, sym, ap, ap₂, ◌∙◌, arith, subst}
use Rattle.std.specs.Prelude.{Option, Some, None, IfSome, Result, Ok, Err, IfOk}
use Rattle.std.specs.Option.{option_map_or}
use Rattle.std.specs.List.{All}
use Rattle.std.proofs.lemmas.List.{append-nil, length-map}
use Rattle.std.proofs.lemmas.List.Elements.{All-map, All-more, All-weaker}
use Rattle.std.specs.FinMap.{get}
use Rattle.common_laws.specs.Maps.{Contents}
use Rattle.col_disk.specs.Moved.{Changed, Moved, NoName, Named}
use Rattle.col_disk.specs.declared.disk.Disk.{Ghosts}
use Rattle.col_disk.proofs.Moving.{changed_kept}
use Rattle.col_value.specs.declared.row.Asked.{Asked}
use Rattle.col_value.specs.declared.row.Stamped.{Stamped}
use Rattle.row_history.specs.History.{stamped}
use Rattle.catalog_types.specs.declared.catalogue.Container.{Container}
use Rattle.catalog_types.specs.Numbers.{file_count}
use Rattle.ros_container.specs.Encodings.{Written}
use Rattle.ros_container.specs.Files.{IsFileOf}
use Rattle.ros_container.specs.Held.{HoldsContainer}
use Rattle.ros_container.specs.Rows.{AreWithin}
use Rattle.del_vector.specs.declared.mark.Mark.{Mark}
use Rattle.del_vector.specs.Marks.{epoch_at}
use Rattle.stored_rows.specs.Held.{HoldsVector, HoldsRows, stamped_from}
use Rattle.stored_rows.specs.Listed.{vector_file}
use Rattle.container_writer.specs.Writing.{listed, with_vector, vector_number}
use Rattle.container_writer.proofs.Filled.{told_before}
use Rattle.merge_rows.specs.Places.{asked_of}
use Rattle.container_draft.specs.Draft.{Drafted, IsDraft}
use Rattle.container_draft.specs.Finished.{IsFinished, AreFinished}
use Rattle.container_draft.specs.Placed.{asked_at, all_at, seen}
use Rattle.container_writer.specs.declared.writing.Written as made
use Rattle.std.proofs.lemmas.Result.{IfOk-weaker}
use Rattle.col_disk.specs.declared.disk.DiskFault.{DiskFault}
use Rattle.container_draft.specs.Reading.{del_of}
use Rattle.container_draft.proofs.Drafted.{draft_kept, draft_done}

-- ---- the least and the greatest epoch, one row at a time

lesser_more : (rows : List Asked) (places : List ℕ) (i x least : ℕ) → i < length places → x ≡ get_or places i x
    → All (λ j. least ≤ (asked_at rows j).ins) (take i places) → All (λ j. min least (asked_at rows x).ins ≤ (asked_at rows j).ins) (take (i + 1) places)
lesser_more rows places i x least within is all =
    All-more (λ j. min least (asked_at rows x).ins ≤ (asked_at rows j).ins) places i x within
    (All-weaker (λ j. least ≤ (asked_at rows j).ins) (λ j. min least (asked_at rows x).ins ≤ (asked_at rows j).ins) (λ j h. omega (arith, h)) (take i places) all)
    (subst (λ (y : ℕ). min least (asked_at rows x).ins ≤ (asked_at rows y).ins) is (omega arith))

greater_more : (rows : List Asked) (places : List ℕ) (i x greatest : ℕ) → i < length places → x ≡ get_or places i x
    → All (λ j. (asked_at rows j).ins ≤ greatest) (take i places) → All (λ j. (asked_at rows j).ins ≤ max greatest (asked_at rows x).ins) (take (i + 1) places)
greater_more rows places i x greatest within is all =
    All-more (λ j. (asked_at rows j).ins ≤ max greatest (asked_at rows x).ins) places i x within
    (All-weaker (λ j. (asked_at rows j).ins ≤ greatest) (λ j. (asked_at rows j).ins ≤ max greatest (asked_at rows x).ins) (λ j h. omega (arith, h)) (take i places) all)
    (subst (λ (y : ℕ). (asked_at rows y).ins ≤ max greatest (asked_at rows x).ins) is (omega arith))

pub lesser_at : (rows : List Asked) (places : List ℕ) (i x least epoch now : ℕ) → i < length places → x ≡ get_or places i x → epoch ≡ (asked_at rows x).ins → now ≡ min least epoch
    → All (λ j. least ≤ (asked_at rows j).ins) (take i places) → All (λ j. now ≤ (asked_at rows j).ins) (take (i + 1) places)
lesser_at rows places i x least epoch now within is at now_is all =
    subst (λ (n : ℕ). All (λ j. n ≤ (asked_at rows j).ins) (take (i + 1) places)) (sym (now_is ∙ ap (min least) at)) (lesser_more rows places i x least within is all)

pub greater_at : (rows : List Asked) (places : List ℕ) (i x greatest epoch now : ℕ) → i < length places → x ≡ get_or places i x → epoch ≡ (asked_at rows x).ins → now ≡ max greatest epoch
    → All (λ j. (asked_at rows j).ins ≤ greatest) (take i places) → All (λ j. (asked_at rows j).ins ≤ now) (take (i + 1) places)
greater_at rows places i x greatest epoch now within is at now_is all =
    subst (λ (n : ℕ). All (λ j. (asked_at rows j).ins ≤ n) (take (i + 1) places)) (sym (now_is ∙ ap (max greatest) at)) (greater_more rows places i x greatest within is all)

-- epochs from the least to the greatest
pub all_within : (least greatest : ℕ) (rows : List Asked) (places : List ℕ) → All (λ j. least ≤ (asked_at rows j).ins) places → All (λ j. (asked_at rows j).ins ≤ greatest) places
    → All (λ (a : Asked). (least ≤ a.ins) × (a.ins ≤ greatest)) (all_at rows places)
all_within least greatest rows places above below = All-map (λ (a : Asked). (least ≤ a.ins) × (a.ins ≤ greatest)) (asked_at rows) places (λ i d within. (above i d within, below i d within))

-- ---- rows with the epochs of their marks

first_at : (f : ℕ → Option ℕ) (k : ℕ) (o : Option ℕ) → f (k + 0) ≡ o → f k ≡ o
first_at f k o is = let same : k + 0 ≡ k = omega arith in sym (ap f same) ∙ is

rest_at : (f : ℕ → Option ℕ) (k : ℕ) (r : Stamped) (rows : List Stamped) → ((i : ℕ) → f (k + i) ≡ get_or (map del_of (r ∷ rows)) i None) → (i : ℕ) → f ((k + 1) + i) ≡ get_or (map del_of rows) i None
rest_at f k r rows is i = let same : (k + 1) + i ≡ k + suc i = omega arith in ap f same ∙ is (suc i)

restamped : (k : ℕ) (f : ℕ → Option ℕ) (rows : List Stamped) → ((i : ℕ) → f (k + i) ≡ get_or (map del_of rows) i None) → stamped_from k f (map asked_of rows) ≡ rows
restamped k f [] is = refl
restamped k f (r ∷ rows) is = ap₂ (λ (d : Option ℕ) (ts : List Stamped). stamped d (asked_of r) ∷ ts) (first_at f k r.del (is 0)) (restamped (k + 1) f rows (rest_at f k r rows is))

as_stamped : (rows : List Stamped) (asked : List Asked) (dels : List (Option ℕ)) (marks : List Mark) → map asked_of rows ≡ asked → map del_of rows ≡ dels → ((i : ℕ) → epoch_at marks i ≡ get_or dels i None)
    → rows ≡ stamped_from 0 (epoch_at marks) asked
as_stamped rows asked dels marks asked_are dels_are deleted =
    sym (restamped 0 (epoch_at marks) rows (λ i. let same : 0 + i ≡ i = omega arith in ap (epoch_at marks) same ∙ deleted i ∙ ap (λ (ds : List (Option ℕ)). get_or ds i None) (sym dels_are)))
    ∙ ap (stamped_from 0 (epoch_at marks)) asked_are

-- ---- what is held at the end

files_stay : (m n : Contents) (columns next q : ℕ) (d : Drafted) → d.base + file_count columns ≤ next → Changed (Named (vector_file next)) NoName m n → IsFileOf d.base columns q → get n q ≡ get m q
files_stay m n columns next q d behind changed (j, within, is) =
    changed_kept (Named (vector_file next)) NoName m n q (λ same. omega (arith, within, is, behind, same)) (λ x. x) changed

one_draft : {D : Type 0} (disk : Ghosts D) {old new : D} (m n : Contents) (es : List Written) (next : ℕ) (d : Drafted) → disk.holds old ≡ Some m → disk.holds new ≡ Some n → d.base + file_count (length es) ≤ next
    → Moved disk (Named (vector_file next)) NoName old new → IsDraft m es d → IsDraft n es d
one_draft disk {old} {new} m n es next d before after behind moved is =
    let (l, told, changed) = told_before disk n after moved in
    let same : l ≡ m = one_contents l m told before in
    draft_kept m n es d (λ q f. files_stay m n (length es) next q d behind (subst (λ (x : Contents). Changed (Named (vector_file next)) NoName x n) same changed) f) is
  where
    one_contents : (a b : Contents) → disk.holds old ≡ Some a → disk.holds old ≡ Some b → a ≡ b
    one_contents a b first second = cc

pub end_held : {D : Type 0} (disk : Ghosts D) {old new : D} (es : List Written) (columns next : ℕ) (d : Drafted) (entry k : Container) (marks : List Mark) (dels : List (Option ℕ)) → length es ≡ columns → 0 < length d.rows
    → entry.base ≡ d.base → entry.rows ≡ length d.rows → entry.stored ≡ columns → AreWithin entry d.rows → k ≡ with_vector next marks entry → ((i : ℕ) → epoch_at marks i ≡ get_or dels i None)
    → ((m : Contents) → disk.holds new ≡ Some m → HoldsVector m k marks) → Moved disk (Named (vector_file next)) NoName old new
    → (m n : Contents) → disk.holds old ≡ Some m → disk.holds new ≡ Some n → IsDraft m es d → columns < d.done → d.base + file_count columns ≤ next → (all : List Stamped) → map asked_of all ≡ d.rows → map del_of all ≡ dels → HoldsRows n es (listed (Some k)) all
end_held disk {old} {new} es columns next d entry k marks dels long some base rows stored within is deleted vector moved m n before after draft done behind all asked_are dels_are =
    let k_base : k.base ≡ d.base = ap (λ (j : Container). j.base) is ∙ base in
    let k_rows : k.rows ≡ length d.rows = ap (λ (j : Container). j.rows) is ∙ rows in
    let k_stored : k.stored ≡ length es = ap (λ (j : Container). j.stored) is ∙ stored ∙ sym long in
    let k_within : AreWithin k d.rows = subst (λ (j : Container). AreWithin j d.rows) (sym is) within in
    let still : IsDraft n es d = one_draft disk m n es next d before after (subst (λ (c : ℕ). d.base + file_count c ≤ next) (sym long) behind) moved draft in
    let held : HoldsContainer n es k d.rows = draft_done n es d k (omega (arith, done, long)) some k_base k_rows k_stored k_within still in
    (marks, all, [], vector n after, (d.rows, held, as_stamped all d.rows dels marks asked_are dels_are deleted), refl, sym (append-nil all))

-- ---- its entry

pub end_finished : (columns level next after count : ℕ) (d : Drafted) (entry k : Container) (marks : List Mark) → 0 < count → count ≡ length d.rows → entry.base ≡ d.base → entry.rows ≡ count → entry.stored ≡ columns → entry.level ≡ level
    → k ≡ with_vector next marks entry → after ≡ next + option_map_or (λ _. 1) k.marks 0 → IsFinished columns level next after d k
end_finished columns level next after count d entry k marks some long base rows stored height is ends = record {
  some = let same : k.rows ≡ entry.rows = ap (λ (j : Container). j.rows) is in omega (arith, some, rows, same);
  rows = ap (λ (j : Container). j.rows) is ∙ rows ∙ long;
  stored = ap (λ (j : Container). j.stored) is ∙ stored;
  base = ap (λ (j : Container). j.base) is ∙ base;
  level = ap (λ (j : Container). j.level) is ∙ height;
  vector = subst (λ (o : Option ℕ). IfSome o (λ n. n ≡ next)) (sym (ap (λ (j : Container). j.marks) is)) (number marks);
  ends = ends;
} where
  number : (ms : List Mark) → IfSome (vector_number next ms) (λ n. n ≡ next)
  number [] = tt
  number (e ∷ ms) = refl

pub end_low : (next after : ℕ) (o : Option ℕ) → next < 2 ^ 61 → after ≡ next + option_map_or (λ _. 1) o 0 → after ≤ 2 ^ 61
end_low next after None low is = omega (arith, low, is)
end_low next after (Some n) low is = omega (arith, low, is)

-- ---- the same of a draft as it is seen

seen_same : (rows shown : List Asked) (places places_shown : List ℕ) (base done : ℕ) (d : Drafted) → shown ≡ rows → places_shown ≡ places → seen rows places base done ≡ d → seen shown places_shown base done ≡ d
seen_same rows shown places places_shown base done d same same_too is = ap (λ (xs : List Asked). seen xs places_shown base done) same ∙ ap (λ (ps : List ℕ). seen rows ps base done) same_too ∙ is

pub finish_held : (result : Result made.Written DiskFault) (es : List Written) (columns next : ℕ) (rows shown : List Asked) (places places_shown : List ℕ) (base done : ℕ) (dels : List (Option ℕ)) (d : Drafted) (found left : Option Contents) → shown ≡ rows → places_shown ≡ places
    → seen rows places base done ≡ d
    → IfOk result (λ w. (done : ℕ) (m n : Contents) → found ≡ Some m → left ≡ Some n → IsDraft m es (seen shown places_shown base done) → columns < done → base + file_count columns ≤ next → (all : List Stamped) → map asked_of all ≡ all_at shown places_shown
    → map del_of all ≡ dels → HoldsRows n es (listed w.container) all)
    → IfOk result (λ w. (m n : Contents) → found ≡ Some m → left ≡ Some n → IsDraft m es d → columns < d.done → d.base + file_count columns ≤ next → (all : List Stamped) → map asked_of all ≡ d.rows → map del_of all ≡ dels → HoldsRows n es (listed w.container) all)
finish_held result es columns next rows shown places places_shown base done dels d found left same same_too is held =
    let e = seen_same rows shown places places_shown base done d same same_too is in
    IfOk-weaker result _ _
    (λ w h m n before after draft lt behind all asked_are dels_are.
    h done m n before after (subst (IsDraft m es) (sym e) draft) (subst (λ (x : Drafted). columns < x.done) (sym e) lt) (subst (λ (x : Drafted). x.base + file_count columns ≤ next) (sym e) behind) all
    (asked_are ∙ ap (λ (x : Drafted). x.rows) (sym e)) dels_are) held

pub finish_numbers : (result : Result made.Written DiskFault) (columns height next : ℕ) (rows shown : List Asked) (places places_shown : List ℕ) (base done : ℕ) (d : Drafted) → shown ≡ rows → places_shown ≡ places → seen rows places base done ≡ d
    → IfOk result (λ w. (done : ℕ) → AreFinished columns height next w.next (seen shown places_shown base done) w.container) → IfOk result (λ w. AreFinished columns height next w.next d w.container)
finish_numbers result columns height next rows shown places places_shown base done d same same_too is numbers =
    let e = seen_same rows shown places places_shown base done d same same_too is in
    IfOk-weaker result _ _ (λ w h. subst (λ (x : Drafted). AreFinished columns height next w.next x w.container) e (h done)) numbers
