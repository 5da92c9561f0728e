-- The entry of a projection that was moved out, and what it holds.
use Rattle.std.proofs.Common.{◌≡◌, ◌+◌, ◌*◌, ◌<◌, ◌≤◌, ◌^◌, ◌++◌, ℕ, List, [], ◌∷◌, length, drop, sym, ◌∙◌, ap, subst, arith, inl, inr}
use Rattle.std.specs.Prelude.{◌⊎◌, Option, Some, None, IfSome}
use Rattle.std.specs.Option.{option_map_or}
use Rattle.std.specs.List.{All, AllZip}
use Rattle.std.proofs.lemmas.List.{append-nil, drop_all, length-append}
use Rattle.std.proofs.lemmas.Slice.Zip.{AllZip-long}
use Rattle.std.proofs.lemmas.List.Elements.{All-nil, All-cons, All-head, All-tail, All-push}
use Rattle.common_laws.specs.Bags.{SameBag}
use Rattle.common_laws.specs.Maps.{Contents}
use Rattle.common_laws.proofs.BagLaws.{bag_refl, bag_append}
use Rattle.col_disk.specs.Moved.{Moved, NoName}
use Rattle.col_disk.specs.declared.disk.Disk.{Ghosts}
use Rattle.col_value.specs.declared.row.Stamped.{Stamped}
use Rattle.catalog_types.specs.declared.catalogue.Container.{Container}
use Rattle.catalog_types.specs.declared.catalogue.ProjColumn.{ProjColumn}
use Rattle.catalog_types.specs.declared.catalogue.Projection.{Projection}
use Rattle.catalog_types.specs.Numbers.{file_count}
use Rattle.ros_container.specs.Encodings.{written_of}
use Rattle.stored_rows.specs.Held.{Holds}
use Rattle.stored_rows.specs.Stored.{Projected}
use Rattle.ros_container.specs.Readable.{HasDefaultValue, IsOfColumns, IsReadable}
use Rattle.proj_store.specs.Sound.{HasVectorNumber, IsLoadable}
use Rattle.container_writer.specs.Writing.{listed, HoldsBag, DataFrom, IsNumbered, AreNumbered}
use Rattle.moveout_job.specs.OnDisk.{IsBelow, IsNewNumber, IsListedBelow, IsRemarked, RemarksEach, KeepsStored, moved_to}
use Rattle.moveout_job.proofs.Renewed.{between, rows_below, rows_join, wider_below}

pub zip_all : {A B : Type 0} (R : A → B → Type 0) (P : A → Type 0) (Q : B → Type 0) → ((x : A) (y : B) → R x y → P x → Q y) → (xs : List A) (ys : List B) → AllZip R xs ys → All P xs → All Q ys
zip_all R P Q f [] [] zipped all = λ j d lt. absurd (omega (arith, lt))
zip_all R P Q f [] (y ∷ ys) zipped all = absurd zipped
zip_all R P Q f (x ∷ xs) [] zipped all = absurd zipped
zip_all R P Q f (x ∷ xs) (y ∷ ys) zipped all = All-cons Q y ys (f x y zipped.0 (All-head P x xs all)) (zip_all R P Q f xs ys zipped.1 (All-tail P x xs all))

pub all_listed : (Q : Container → Type 0) (js : List Container) (made : Option Container) → All Q js → IfSome made Q → All Q (js ++ listed made)
all_listed Q js None all one = subst (All Q) (sym (append-nil js)) all
all_listed Q js (Some k) all one = All-push Q js k all one

pub of_entry : (last : ℕ) (js : List Container) (made : Option Container) (shown old new : Projection) → new ≡ moved_to last js made shown → shown ≡ old → new ≡ moved_to last js made old
of_entry last js made shown old new is same = is ∙ ap (moved_to last js made) same

-- ---- numbers

pub vector_low : (next mid : ℕ) (k j : Container) → IsRemarked next mid k j → HasVectorNumber k → HasVectorNumber j
vector_low next mid k j is low = by is.marks
  where
    of : (o : Option ℕ) → IfSome o (IsNewNumber next mid) → IfSome o (λ n. n < 2 ^ 62)
    of None drawn = tt
    of (Some n) drawn = drawn.low

    by : ((j.marks ≡ k.marks) × (j.greatest_mark ≡ k.greatest_mark)) ⊎ IfSome j.marks (IsNewNumber next mid) → HasVectorNumber j
    by (inl (same, greatest)) = subst (λ (o : Option ℕ). IfSome o (λ n. n < 2 ^ 62)) (sym same) low
    by (inr drawn) = of j.marks drawn

pub files_low : (columns : List ProjColumn) (next mid : ℕ) (k j : Container) → IsRemarked next mid k j → IsReadable columns k → IsReadable columns j
files_low columns next mid k j is low = record {
  of_columns = record {
    rows = let some = of.rows in let same = is.rows in omega (arith, some, same);
    most = let most = of.most in let same = is.stored in omega (arith, most, same);
    defaults = subst (λ (n : ℕ). All HasDefaultValue (drop n columns)) (sym is.stored) of.defaults;
  };
  numbers = let numbers = low.numbers in let base = is.base in let stored = is.stored in omega (arith, numbers, base, stored);
} where
  of : IsOfColumns columns k
  of = low.of_columns

made_low : (columns : List ProjColumn) (mid after : ℕ) (k : Container) → IsNumbered (length columns) mid after k → IsReadable columns k × HasVectorNumber k
made_low columns mid after k is = (record { of_columns = of_columns; numbers = by k.marks is.ends }, of k.marks is.vector is.ends)
  where
    of_columns : IsOfColumns columns k
    of_columns = record {
      rows = is.rows;
      most = let stored = is.stored in omega (arith, stored);
      defaults = subst (All HasDefaultValue) (sym (drop_all k.stored columns (let stored = is.stored in omega (arith, stored)))) (All-nil HasDefaultValue);
    }

    by : (o : Option ℕ) → after ≡ mid + (file_count k.stored + option_map_or (λ _. 1) o 0) → k.base + 2 * k.stored + 1 < 2 ^ 62
    by None e = let base = is.base in let below = is.below in omega (arith, e, base, below)
    by (Some v) e = let base = is.base in let below = is.below in omega (arith, e, base, below)

    of : (o : Option ℕ) → IfSome o (λ v. v ≡ mid + file_count (length columns)) → after ≡ mid + (file_count k.stored + option_map_or (λ _. 1) o 0) → IfSome o (λ v. v < 2 ^ 62)
    of None v e = tt
    of (Some v) is_v e = let below = is.below in let stored = is.stored in omega (arith, is_v, e, below, stored)

pub made_each : (columns : List ProjColumn) (mid after : ℕ) (made : Option Container) → AreNumbered (length columns) mid after made → IfSome made (IsReadable columns) × IfSome made HasVectorNumber
made_each columns mid after None are = (tt, tt)
made_each columns mid after (Some k) are = made_low columns mid after k are

pub loads : (last next mid after : ℕ) (old new : Projection) (js : List Container) (made : Option Container) → new ≡ moved_to last js made old → IsLoadable old → AllZip (IsRemarked next mid) old.containers js
    → AreNumbered (length old.columns) mid after made → IsLoadable new
loads last next mid after old new js made is loadable each numbers =
    let low = made_each old.columns mid after made numbers in
    subst IsLoadable (sym is) (record {
      files = all_listed (IsReadable old.columns) js made
          (zip_all (IsRemarked next mid) (IsReadable old.columns) (IsReadable old.columns) (files_low old.columns next mid) old.containers js each loadable.files) low.0;
      vectors = all_listed HasVectorNumber js made (zip_all (IsRemarked next mid) HasVectorNumber HasVectorNumber (vector_low next mid) old.containers js each loadable.vectors) low.1;
      sort = loadable.sort;
    })

pub remarked_below : (next mid : ℕ) (k j : Container) → next ≤ mid → IsRemarked next mid k j → IsBelow next k → IsBelow mid j
remarked_below next mid k j le is low = record { files = let same = is.base in let stored = is.stored in let files = low.files in omega (arith, same, stored, files, le); vector = by is.marks }
  where
    up : (o : Option ℕ) → IfSome o (λ n. n < next) → IfSome o (λ n. n < mid)
    up None below = tt
    up (Some n) below = omega (arith, below, le)

    of : (o : Option ℕ) → IfSome o (IsNewNumber next mid) → IfSome o (λ n. n < mid)
    of None drawn = tt
    of (Some n) drawn = drawn.upto

    by : ((j.marks ≡ k.marks) × (j.greatest_mark ≡ k.greatest_mark)) ⊎ IfSome j.marks (IsNewNumber next mid) → IfSome j.marks (λ n. n < mid)
    by (inl (same, greatest)) = subst (λ (o : Option ℕ). IfSome o (λ n. n < mid)) (sym same) (up k.marks low.vector)
    by (inr drawn) = of j.marks drawn

made_below : (columns mid after : ℕ) (k : Container) → IsNumbered columns mid after k → IsBelow after k
made_below columns mid after k is = record { files = by k.marks is.ends; vector = of k.marks is.vector is.ends }
  where
    by : (o : Option ℕ) → after ≡ mid + (file_count k.stored + option_map_or (λ _. 1) o 0) → k.base + file_count k.stored ≤ after
    by None e = let base = is.base in omega (arith, e, base)
    by (Some v) e = let base = is.base in omega (arith, e, base)

    of : (o : Option ℕ) → IfSome o (λ n. n ≡ mid + file_count columns) → after ≡ mid + (file_count k.stored + option_map_or (λ _. 1) o 0) → IfSome o (λ n. n < after)
    of None v e = tt
    of (Some n) v e = let stored = is.stored in omega (arith, v, e, stored)

pub numbers_rise : (columns mid after : ℕ) (made : Option Container) → AreNumbered columns mid after made → mid ≤ after
numbers_rise columns mid after None are = omega (arith, are)
numbers_rise columns mid after (Some k) are = let e = are.ends in omega (arith, e)

pub made_all_below : (columns mid after : ℕ) (made : Option Container) → AreNumbered columns mid after made → IfSome made (IsBelow after)
made_all_below columns mid after None are = tt
made_all_below columns mid after (Some k) are = made_below columns mid after k are

pub lists_below : (last next mid after : ℕ) (old new : Projection) (js : List Container) (made : Option Container) → new ≡ moved_to last js made old → next ≤ mid → AllZip (IsRemarked next mid) old.containers js
    → AreNumbered (length old.columns) mid after made → IsListedBelow next old → IsListedBelow after new
lists_below last next mid after old new js made is le each numbers below =
    let rise = numbers_rise (length old.columns) mid after made numbers in
    subst (IsListedBelow after) (sym is)
    (all_listed (IsBelow after) js made
    (zip_all (IsRemarked next mid) (IsBelow next) (IsBelow after)
    (λ k j same low. wider_below mid after j rise (remarked_below next mid k j le same low)) old.containers js each below)
    (made_all_below (length old.columns) mid after made numbers))

-- ---- rows

pub moves_out : {D : Type 0} (disk : Ghosts D) {old mid new : D} (last next after : ℕ) (p : Projected) (entry : Projection) (js : List Container) (made : Option Container) (rows : List Stamped)
    → entry ≡ moved_to last js made p.entry → RemarksEach (written_of p.entry) next after p.entry.containers p.beside js (disk.holds old) (disk.holds mid) → Moved disk (DataFrom after) NoName mid new
    → ((m : Contents) → disk.holds new ≡ Some m → HoldsBag m (written_of p.entry) (listed made) rows) → rows ≡ p.unsaved → KeepsStored next p entry (disk.holds old) (disk.holds new)
moves_out disk last next after p entry js made rows is each second bag are m n told left below stored (saved, stores, stored_is) =
    let es = written_of p.entry in
    let (l, told_l, held_l) = each m saved told below stores in
    let kept = rows_below l n es js saved after held_l.below (between disk l n told_l left second) held_l.held in
    let (more, holds_more, same) = bag n left in (
      saved ++ more,
      subst (λ (e : Projection). Holds n e (saved ++ more)) (sym is) (rows_join n es js (listed made) saved more kept holds_more),
      subst (λ (xs : List Stamped). SameBag xs (saved ++ more)) (sym stored_is)
          (bag_append saved p.unsaved saved more (bag_refl saved) (subst (λ (xs : List Stamped). SameBag xs more) are same)),
    )

-- ---- how many containers

pub short : (made : Option Container) → length (listed made) ≤ 1
short None = omega arith
short (Some k) = omega arith

pub counts : (last next mid : ℕ) (old new : Projection) (js : List Container) (made : Option Container) → new ≡ moved_to last js made old → AllZip (IsRemarked next mid) old.containers js → length new.containers ≤ length old.containers + 1
counts last next mid old new js made is each =
    let all = ap (λ (e : Projection). length e.containers) is in
    let parts = length-append js (listed made) in
    let long = AllZip-long (IsRemarked next mid) old.containers js each in
    let one = short made in
    omega (arith, all, parts, long, one)
