-- What was written as one container.
use Rattle.std.proofs.Common.{◌≡◌, ◌≤◌, ◌<◌, ◌+◌, ◌^◌, ℕ, List, [], ◌∷◌, length, map, refl, sym, ◌∙◌, ap, subst, arith}
use Rattle.std.specs.Prelude.{Option, Some, None, IfSome, Result, Ok, Err, IfOk}
use Rattle.std.specs.Option.{option_map_or}
use Rattle.std.proofs.lemmas.List.{append-nil, length-map}
use Rattle.common_laws.specs.Bags.{SameBag}
use Rattle.common_laws.specs.Maps.{Contents}
use Rattle.common_laws.proofs.BagLaws.{bag_refl, bag_length}
use Rattle.col_disk.specs.Calls.{Stepped}
use Rattle.col_disk.specs.Moved.{Changed, Moved, NoName, Named}
use Rattle.col_disk.specs.declared.disk.Disk.{Ghosts}
use Rattle.col_disk.proofs.Moving.{changed_kept}
use Rattle.col_value.specs.declared.row.Asked.{Asked}
use Rattle.col_value.specs.declared.row.Stamped.{Stamped}
use Rattle.catalog_types.specs.declared.catalogue.Container.{Container}
use Rattle.catalog_types.specs.Numbers.{file_count, container_count}
use Rattle.ros_container.specs.Encodings.{Written}
use Rattle.ros_container.specs.Files.{IsFileOf}
use Rattle.ros_container.specs.Held.{HoldsContainer}
use Rattle.ros_container.specs.Rows.{AreWithin}
use Rattle.ros_container.proofs.Kept.{rows_kept}
use Rattle.del_vector.specs.declared.mark.Mark.{Mark}
use Rattle.del_vector.specs.Marks.{epoch_at}
use Rattle.stored_rows.specs.Held.{HoldsVector, stamped_from, greatest_epoch}
use Rattle.stored_rows.specs.Listed.{vector_file}
use Rattle.container_writer.specs.declared.refs.Keyed.{Keyed}
use Rattle.container_writer.specs.declared.refs.StampedRef.{StampedRef}
use Rattle.container_writer.specs.Ordered.{asked_of, del_at, restamp, stamped_of}
use Rattle.container_writer.specs.Writing.{listed, HoldsOne, HoldsBag, DataFrom, IsNumbered, with_vector}
use Rattle.container_writer.proofs.Marks.{as_written}

-- ---- names

pub rows_are_data : (base columns q : ℕ) → IsFileOf base columns q → DataFrom base q
rows_are_data base columns q f = (base + f.0, omega arith, f.2)

pub vector_is_data : (base number q : ℕ) → base ≤ number → Named (vector_file number) q → DataFrom base q
vector_is_data base number q le is = (number, le, is)

-- ---- contents

-- what a disk told before a step
stepped_before : (P : Contents → Contents → Type 0) (old new : Option Contents) (n : Contents) → new ≡ Some n → Stepped P old new → (m : Contents) × (old ≡ Some m) × P m n
stepped_before P old new n told step = there old (subst (λ (o : Option Contents). Stepped P old o) told step)
  where
    there : (o : Option Contents) → Stepped P o (Some n) → (m : Contents) × (o ≡ Some m) × P m n
    there (Some m) taken = (m, refl, taken)
    there None taken = absurd taken

pub told_before : {D : Type 0} (disk : Ghosts D) {W R : ℕ → Type 0} {old new : D} (n : Contents) → disk.holds new ≡ Some n → Moved disk W R old new → (m : Contents) × (disk.holds old ≡ Some m) × Changed W R m n
told_before disk {W} {R} {old} {new} n told moved = stepped_before (Changed W R) (disk.holds old) (disk.holds new) n told moved.contents

-- the rows are held on while a vector behind them is written
rows_stay : (m n : Contents) (es : List Written) (columns base number : ℕ) (k : Container) (rows : List Asked) → k.stored ≡ columns → k.base ≡ base → number ≡ base + file_count columns
    → Changed (Named (vector_file number)) NoName m n → HoldsContainer m es k rows → HoldsContainer n es k rows
rows_stay m n es columns base number k rows wide at behind changed held =
    rows_kept m n es k rows
    (λ q f.
    let within = f.1 in
    let is = f.2 in
    changed_kept (Named (vector_file number)) NoName m n q (λ same. omega (arith, wide, at, behind, within, is, same)) (λ x. x) changed) held

pub one_held : {D : Type 0} (disk : Ghosts D) {mid new : D} (es : List Written) (columns base number count : ℕ) (entry k : Container) (rows : List Asked) (marks : List Mark)
    → entry.stored ≡ columns → number ≡ base + file_count columns → entry.base ≡ base → entry.rows ≡ count → AreWithin entry rows → k ≡ with_vector number marks entry
    → ((m : Contents) → disk.holds mid ≡ Some m → (j : Container) → j.base ≡ base → j.rows ≡ count → j.stored ≡ columns → AreWithin j rows → HoldsContainer m es j rows)
    → ((m : Contents) → disk.holds new ≡ Some m → HoldsVector m k marks) → Moved disk (Named (vector_file number)) NoName mid new
    → (m : Contents) → disk.holds new ≡ Some m → HoldsOne m es k (stamped_from 0 (epoch_at marks) rows)
one_held disk es columns base number count entry k rows marks wide behind at long within is held vector moved m told =
    let before = told_before disk m told moved in
    let k_base : k.base ≡ base = ap (λ (j : Container). j.base) is ∙ at in
    let k_rows : k.rows ≡ count = ap (λ (j : Container). j.rows) is ∙ long in
    let k_stored : k.stored ≡ columns = ap (λ (j : Container). j.stored) is ∙ wide in
    let k_within : AreWithin k rows = subst (λ (j : Container). AreWithin j rows) (sym is) within in
    let here : HoldsContainer before.0 es k rows = held before.0 before.1 k k_base k_rows k_stored k_within in
    (marks, vector m told, (rows, rows_stay before.0 m es columns base number k rows k_stored k_base behind before.2 here, refl))

-- ---- rows

pub bag_of_none : (m : Contents) (es : List Written) (rows : List StampedRef) → rows ≡ [] → HoldsBag m es (listed None) (map stamped_of rows)
bag_of_none m es rows is = ([], refl, subst (λ (xs : List StampedRef). SameBag (map stamped_of xs) []) (sym is) (bag_refl []))

pub bag_of_one : (m : Contents) (es : List Written) (k : Container) (rows : List Stamped) (sorted : List Keyed) (marks : List Mark) → ((i : ℕ) → epoch_at marks i ≡ del_at sorted i)
    → SameBag rows (map restamp sorted) → HoldsOne m es k (stamped_from 0 (epoch_at marks) (map asked_of sorted)) → HoldsBag m es (listed (Some k)) rows
bag_of_one m es k rows sorted marks deleted same (own, vector, marked) =
    let held : List Stamped = stamped_from 0 (epoch_at marks) (map asked_of sorted) in (
      held,
      (own, held, [], vector, marked, refl, sym (append-nil held)),
      subst (SameBag rows) (sym (as_written sorted marks deleted)) same,
    )

pub nothing_there : {X : Type 0} (xs : List X) → length xs ≡ 0 → xs ≡ []
nothing_there [] none = refl
nothing_there (x ∷ xs) none = absurd (omega (arith, none))

pub some_there : {X : Type 0} (xs : List X) → xs ≡ [] → length xs ≡ 0
some_there xs none = ap length none

-- ---- numbers

pub numbered : (columns next after : ℕ) (k : Container) → columns ≤ 64 → next < 2 ^ 61 → 1 ≤ k.rows → k.stored ≡ columns → k.base ≡ next → IfSome k.marks (λ n. n ≡ next + file_count columns) → after ≡ k.base + container_count k → IsNumbered columns next after k
numbered columns next after k most low rows stored base vector is = record {
  rows = rows;
  stored = stored;
  base = base;
  vector = vector;
  ends = is ∙ ap (λ (n : ℕ). n + container_count k) base;
  below = by k.marks (is ∙ ap (λ (n : ℕ). n + container_count k) base);
} where
  by : (o : Option ℕ) → after ≡ next + (file_count k.stored + option_map_or (λ _. 1) o 0) → after ≤ 2 ^ 62
  by None e = omega (arith, e, most, low, stored)
  by (Some v) e = omega (arith, e, most, low, stored)

-- ---- the entry with its vector

pub bare_entry : (number : ℕ) (marks : List Mark) (entry k : Container) → k ≡ record entry { marks = None; greatest_mark = 0 } → length marks ≡ 0 → k ≡ with_vector number marks entry
bare_entry number [] entry k is none = is
bare_entry number (e ∷ marks) entry k is none = absurd (omega (arith, none))

pub full_entry : (number greatest : ℕ) (marks : List Mark) (entry k : Container) → k ≡ record entry { marks = Some number; greatest_mark = greatest } → 0 < length marks → greatest ≡ greatest_epoch marks → k ≡ with_vector number marks entry
full_entry number greatest [] entry k is some same = absurd (omega (arith, some))
full_entry number greatest (e ∷ marks) entry k is some same = is ∙ ap (λ (g : ℕ). record entry { marks = Some number; greatest_mark = g }) same

pub no_vector : (m : Contents) (entry k : Container) (marks : List Mark) → k ≡ record entry { marks = None; greatest_mark = 0 } → length marks ≡ 0 → HoldsVector m k marks
no_vector m entry k marks is none = subst (λ (j : Container). HoldsVector m j marks) (sym is) (nothing_there marks none)

-- ---- answers

pub both_ok : {T E : Type 0} (P Q R : T → Type 0) (r : Result T E) → ((t : T) → P t → Q t → R t) → IfOk r P → IfOk r Q → IfOk r R
both_ok P Q R (Ok t) f p q = f t p q
both_ok P Q R (Err e) f p q = tt

pub some_written : (rows : List StampedRef) (sorted : List Keyed) → SameBag (map stamped_of rows) (map restamp sorted) → 0 < length rows → 0 < length sorted
some_written rows sorted same some =
    let first = bag_length (map stamped_of rows) (map restamp sorted) same in
    let second = length-map sorted restamp in
    let third = length-map rows stamped_of in
    omega (arith, first, second, third, some)
