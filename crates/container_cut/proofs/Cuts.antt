-- One container, cut.
use Rattle.std.proofs.Common.{◌≡◌, ℕ, ◌+◌, ◌≤◌, ◌<◌, ◌++◌, List, [], ◌∷◌, length, map, take, drop, get_or, Option, Some, None, refl, sym, ap, ◌∙◌, subst, inl, arith}
use Rattle.std.specs.Prelude.{◌^◌, IfSome, sum_by}
use Rattle.std.proofs.lemmas.List.Sums.{sum_by_more}
use Rattle.std.specs.Option.{option_map_or}
use Rattle.std.specs.List.{All}
use Rattle.std.proofs.lemmas.List.{append-nil, length-append, length-take-le, take_all}
use Rattle.std.proofs.lemmas.List.Elements.{All-cons, All-nil, All-weaker, All-filter}
use Rattle.common_laws.specs.Bags.{SameBag}
use Rattle.common_laws.specs.Maps.{Contents}
use Rattle.common_laws.proofs.BagLaws.{bag_map, bag_refl, bag_sym}
use Rattle.col_value.specs.declared.row.Asked.{Asked}
use Rattle.col_value.specs.declared.row.Stamped.{Stamped}
use Rattle.row_history.specs.History.{cut_delete, cut_rows}
use Rattle.catalog_types.specs.Numbers.{file_count, container_count}
use Rattle.catalog_types.specs.declared.catalogue.Container.{Container}
use Rattle.catalog_types.specs.declared.catalogue.ProjColumn.{ProjColumn}
use Rattle.catalog_types.specs.declared.catalogue.Projection.{Projection}
use Rattle.ros_container.specs.Encodings.{Written, written_of}
use Rattle.ros_container.specs.Held.{HoldsContainer}
use Rattle.ros_container.specs.Readable.{HasDefaultValue, IsOfColumns}
use Rattle.ros_container.specs.Rows.{IsWithin}
use Rattle.ros_container.proofs.Kept.{rows_kept}
use Rattle.del_vector.specs.declared.mark.Mark.{Mark}
use Rattle.del_vector.specs.Marks.{AreMarks, epoch_at, marks_upto}
use Rattle.del_vector.proofs.Places.{cut_epochs}
use Rattle.del_vector.proofs.Reading.{one_spelling}
use Rattle.stored_rows.specs.Held.{HoldsVectorAt, HoldsVector, HoldsRows, stamped_from}
use Rattle.stored_rows.proofs.OneList.{OneContainer, one_marks, one_held}
use Rattle.stored_rows.specs.Listed.{vector_file}
use Rattle.container_writer.specs.Writing.{listed, HoldsBag, vector_number, with_vector, DataFrom, AreNumbered}
use Rattle.stored_rows.proofs.EarlyCuts.{cut_same}
use Rattle.stored_rows.specs.Early.{EndsBy}
use Rattle.stored_rows.proofs.EarlyHeld.{held_up}
use Rattle.container_cut.specs.Listed.{IsBelow}
use Rattle.container_cut.specs.Cutting.{CutsContainers, Between}
use Rattle.container_cut.proofs.Stamps.{cut_stamps, epoch_is_delete}
use Rattle.container_cut.proofs.Below.{SameBelow, container_same}
use Rattle.container_cut.proofs.Fronts.{full, full_stamped, widen, stamped_full, cut_full, rows_of_listed}

-- what one container holds
to_one : (m : Contents) (es : List Written) (k : Container) (marks : List Mark) (asked : List Asked) → HoldsVector m k marks → HoldsContainer m es k asked → HoldsRows m es (k ∷ []) (stamped_from 0 (epoch_at marks) asked)
to_one m es k marks asked vector held =
    (marks, stamped_from 0 (epoch_at marks) asked, [], vector, (asked, held, refl), refl, sym (append-nil (stamped_from 0 (epoch_at marks) asked)))

record HoldsThese (m : Contents) (es : List Written) (k : Container) (rows : List Stamped) : Type 0 where
  marks : List Mark
  asked : List Asked
  vector : HoldsVector m k marks
  held : HoldsContainer m es k asked
  are : rows ≡ stamped_from 0 (epoch_at marks) asked

of_one : (m : Contents) (es : List Written) (k : Container) (rows : List Stamped) → HoldsRows m es (k ∷ []) rows → HoldsThese m es k rows
of_one m es k rows (marks, here, more, vector, (asked, held, stamp), rest, are) = record {
  marks = marks;
  asked = asked;
  vector = vector;
  held = held;
  are = are ∙ ap (λ (r : List Stamped). here ++ r) rest ∙ append-nil here ∙ stamp;
}

-- nothing is later
pub cuts_same : (es : List Written) (epoch : ℕ) (k : Container) (m : Contents) → k.greatest_epoch ≤ epoch → k.greatest_mark ≤ epoch → CutsContainers es epoch (k ∷ []) (k ∷ []) m m
cuts_same es epoch k m inserted marked old held = (
  old,
  held,
  subst (SameBag old) (sym (cut_same epoch old (held_up m es epoch (k ∷ []) old (All-cons (EndsBy epoch) k [] (inserted, marked) (All-nil (EndsBy epoch))) held))) (bag_refl old),
)

-- the disk is as it was
pub between_same : (P : Contents → Contents → Type 0) (found left : Option Contents) → left ≡ found → ((m : Contents) → P m m) → Between P found left
between_same P found left same h m n before after =
    let told : ◌≡◌ {A = Option Contents} (Some m) (Some n) = sym before ∙ sym same ∙ after in
    let one : m ≡ n = cc in
    subst (P m) one (h m)

-- marks are later alone
vector_order : (m : Contents) (k : Container) (o : Option ℕ) (marks : List Mark) → HoldsVectorAt m k o marks → AreMarks marks
vector_order m k None marks is = subst AreMarks (sym is) refl
vector_order m k (Some n) marks (of, file) = of.spelled.order

-- the rows of a container are those of another entry with the same files
other_entry : (m : Contents) (es : List Written) (k : Container) (number : ℕ) (marks : List Mark) (asked : List Asked) → HoldsContainer m es k asked → HoldsContainer m es (with_vector number marks k) asked
other_entry m es k number marks asked held = record { each = held.each; defaults = held.defaults; epochs = held.epochs; wide = held.wide; within = held.within }

pub cuts_marks : (m n : Contents) (p : Projection) (epoch next : ℕ) (k : Container) (marks left : List Mark) → k.greatest_epoch ≤ epoch → IsBelow next p.columns k → SameBelow next m n
    → HoldsVector m k marks → left ≡ marks_upto epoch marks → HoldsVector n (with_vector next left k) left → CutsContainers (written_of p) epoch (k ∷ []) (with_vector next left k ∷ []) m n
cuts_marks m n p epoch next k marks left inserted below same vector left_is written old held =
    let es = written_of p in
    let it = of_one m es k old held in
    let marks_are : it.marks ≡ marks = one_marks one_spelling m k it.marks marks it.vector vector in
    let files = container_same m n next p.columns k same below in
    let here : HoldsContainer n es (with_vector next left k) it.asked =
    other_entry n es k next left it.asked
    (rows_kept m n es k it.asked (λ q f. files q (inl f)) it.held) in
    let ins : All (λ a. a.ins ≤ epoch) it.asked = All-weaker (λ a. IsWithin k a.ins) (λ a. a.ins ≤ epoch) (λ a w. let high = w.1 in omega (arith, high, inserted)) it.asked it.held.within in
    let marked : (j : ℕ) → epoch_at left j ≡ cut_delete epoch (epoch_at it.marks j) =
    λ j. ap (λ (v : List Mark). epoch_at v j) left_is ∙ cut_epochs 0 epoch marks (vector_order m k k.marks marks vector) j ∙ epoch_is_delete epoch (epoch_at marks j)
    ∙ ap (λ (v : List Mark). cut_delete epoch (epoch_at v j)) (sym marks_are) in
    let same_rows : stamped_from 0 (epoch_at left) it.asked ≡ cut_rows epoch old = cut_stamps epoch 0 (epoch_at it.marks) (epoch_at left) it.asked ins marked ∙ ap (cut_rows epoch) (sym it.are) in (
      stamped_from 0 (epoch_at left) it.asked,
      to_one n es (with_vector next left k) left it.asked written here,
      subst (SameBag (stamped_from 0 (epoch_at left) it.asked)) same_rows (bag_refl (stamped_from 0 (epoch_at left) it.asked)),
    )

pub marks_within : (k : Container) (epoch : ℕ) (marks left : List Mark) → left ≡ marks_upto epoch marks → All (λ e. e.position < k.rows) marks → All (λ e. e.position < k.rows) left
marks_within k epoch marks left is all = subst (All (λ e. e.position < k.rows)) (sym is) (All-filter _ (λ e. e.position < k.rows) marks all)

-- rows are later: what is left is written with the columns that the container stores
pub cuts_inserts : OneContainer → (m n : Contents) (es : List Written) (epoch : ℕ) (k : Container) (o : Option Container) (marks : List Mark) (asked : List Asked) (left : List Stamped) → k.stored ≤ length es
    → IfSome o (λ j. j.stored ≡ k.stored) → HoldsVector m k marks → HoldsContainer m (take k.stored es) k asked → left ≡ cut_rows epoch (stamped_from 0 (epoch_at marks) asked) → HoldsBag n (take k.stored es) (listed o) left
    → CutsContainers es epoch (k ∷ []) (listed o) m n
cuts_inserts one m n es epoch k o marks asked left le stored vector read left_is (bag, holds, same) old held =
    let all : List Asked = map (full es k.stored) asked in
    let f : Stamped → Stamped = full_stamped es k.stored in
    let there : old ≡ stamped_from 0 (epoch_at marks) all =
    one_held one_spelling one m es (k ∷ []) old (stamped_from 0 (epoch_at marks) all) held (to_one m es k marks all vector (widen m es k asked le read)) in
    let cut : cut_rows epoch old ≡ map f left =
    ap (cut_rows epoch) (there ∙ stamped_full es k.stored 0 (epoch_at marks) asked) ∙ cut_full es k.stored epoch (stamped_from 0 (epoch_at marks) asked) ∙ ap (map f) (sym left_is) in
    (map f bag, rows_of_listed n es o k.stored bag stored le holds, subst (SameBag (map f bag)) (sym cut) (bag_map f bag left (bag_sym left bag same)))

-- ---- the numbers of what was written

-- a delete vector under a number
pub vector_below : (next : ℕ) (columns : List ProjColumn) (k : Container) (left : List Mark) → IsBelow next columns k → IsBelow (next + 1) columns (with_vector next left k)
vector_below next columns k left below = record {
  of_columns = record { rows = below.of_columns.rows; most = below.of_columns.most; defaults = below.of_columns.defaults };
  files = let end = below.files in omega (arith, end);
  vector = by left;
}
  where
    by : (marks : List Mark) → IfSome (vector_number next marks) (λ n. n < next + 1)
    by [] = tt
    by (e ∷ marks) = omega arith

vector_numbered : (base columns next : ℕ) (o : Option ℕ) → base ≡ next → IfSome o (λ n. n ≡ next + file_count columns) → (base + file_count columns ≤ next + (file_count columns + option_map_or (λ _. 1) o 0)) × IfSome o (λ n. n < next + (file_count columns + option_map_or (λ _. 1) o 0))
vector_numbered base columns next None is at = (omega (arith, is), tt)
vector_numbered base columns next (Some n) is at = (omega (arith, is), omega (arith, at))

-- what was written stores as many columns
of_front : (columns : List ProjColumn) (k j : Container) → IsOfColumns columns k → 1 ≤ j.rows → j.stored ≡ k.stored → IsOfColumns columns j
of_front columns k j of_k rows same = record {
  rows = rows;
  most = let most = of_k.most in omega (arith, most, same);
  defaults = subst (λ (n : ℕ). All HasDefaultValue (drop n columns)) (sym same) of_k.defaults;
}

pub front_long : (columns : List ProjColumn) (k : Container) → IsOfColumns columns k → length (take k.stored columns) ≡ k.stored
front_long columns k of_k = length-take-le k.stored columns of_k.most

pub numbered_below : (columns : List ProjColumn) (k : Container) (next after : ℕ) (o : Option Container) → IsOfColumns columns k → AreNumbered (length (take k.stored columns)) next after o → All (IsBelow after columns) (listed o)
numbered_below columns k next after None of_k is = All-nil (IsBelow after columns)
numbered_below columns k next after (Some j) of_k is =
    let same : j.stored ≡ k.stored = is.stored ∙ front_long columns k of_k in
    let behind : IfSome j.marks (λ n. n ≡ next + file_count j.stored) = subst (λ (x : ℕ). IfSome j.marks (λ n. n ≡ next + file_count x)) (sym is.stored) is.vector in
    let both = vector_numbered j.base j.stored next j.marks is.base behind in
    All-cons (IsBelow after columns) j []
    (subst (λ (n : ℕ). IsBelow n columns j) (sym is.ends) (record { of_columns = of_front columns k j of_k is.rows same; files = both.0; vector = both.1 })) (All-nil (IsBelow after columns))

-- what was written has as many columns
pub numbered_stored : (columns : List ProjColumn) (k : Container) (next after : ℕ) (o : Option Container) → IsOfColumns columns k → AreNumbered (length (take k.stored columns)) next after o → IfSome o (λ j. j.stored ≡ k.stored)
numbered_stored columns k next after None of_k is = tt
numbered_stored columns k next after (Some j) of_k is = is.stored ∙ front_long columns k of_k

pub numbered_next : (columns next after : ℕ) (o : Option Container) → next ≤ 2 ^ 62 → AreNumbered columns next after o → (next ≤ after) × (after ≤ 2 ^ 62)
numbered_next columns next after None le is = (omega (arith, is), omega (arith, le, is))
numbered_next columns next after (Some k) le is = let end = is.ends in (omega (arith, end), is.below)

-- the number of a file that may be written
pub number_free : (number : ℕ) (q : ℕ) → q ≡ vector_file number → DataFrom number q
number_free number q is = (number, omega arith, is)

-- nothing was written
pub same_below : (next : ℕ) (columns : List ProjColumn) (k : Container) → IsBelow next columns k → All (IsBelow next columns) (k ∷ [])
same_below next columns k below = All-cons (IsBelow next columns) k [] below (All-nil (IsBelow next columns))

-- one number more than there were
pub one_of_these : (next : ℕ) (k : Container) → next + 1 ≤ next + container_count k
one_of_these next k = omega arith

-- counts, one more
pub count_more : {X : Type 0} (f : X → ℕ) (xs : List X) (i : ℕ) (x : X) (first free next : ℕ) → i < length xs → x ≡ get_or xs i x → free ≤ first + sum_by f (take i xs) → next ≤ free + f x → next ≤ first + sum_by f (take (i + 1) xs)
count_more {X} f xs i x first free next lt is before here =
    let one = sum_by_more f xs i x lt in let same = ap f (sym is) in omega (arith, before, here, one, same)

-- at most one container more
pub count_kept : (ks : List Container) (o : Option Container) (more : List Container) (i : ℕ) → more ≡ ks ++ listed o → length ks ≤ i → length more ≤ i + 1
count_kept ks None more i is few = omega (arith, ap length is, length-append ks [], few)
count_kept ks (Some k) more i is few = omega (arith, ap length is, length-append ks (k ∷ []), few)

pub count_all : {X : Type 0} (f : X → ℕ) (xs : List X) (i first free : ℕ) → length xs ≤ i → free ≤ first + sum_by f (take i xs) → free ≤ first + sum_by f xs
count_all {X} f xs i first free past le = subst (λ (ys : List X). free ≤ first + sum_by f ys) (take_all i xs past) le
