-- Chosen containers that are read one after the other.
use Rattle.std.proofs.Common.{◌≡◌, ℕ, ◌+◌, ◌<◌, ◌≤◌, ◌++◌, Bool, true, false, List, [], ◌∷◌, length, map, take, get_or, Option, refl, sym, ap, ap₂, ◌∙◌, arith, subst, append_assoc}
use Rattle.std.specs.Prelude.{slice_index_or, Some}
use Rattle.std.specs.List.{All, AllZip}
use Rattle.std.proofs.lemmas.List.{map-append, append-nil, length-map}
use Rattle.std.proofs.lemmas.List.Elements.{All-append, All-nil}
use Rattle.common_laws.specs.Maps.{Contents}
use Rattle.col_value.specs.declared.row.Asked.{Asked}
use Rattle.col_value.specs.declared.row.Stamped.{Stamped}
use Rattle.catalog_types.specs.declared.catalogue.Container.{Container}
use Rattle.ros_container.specs.Encodings.{Written}
use Rattle.ros_container.specs.Rows.{AreWide}
use Rattle.ros_container.proofs.Long.{container_long}
use Rattle.stored_rows.specs.Held.{HoldsVector, HoldsMarked, stamped_from}
use Rattle.stored_rows.specs.Stored.{Beside, mark_in, StoresRows}
use Rattle.merge_rows.specs.Places.{asked_of}
use Rattle.merge_rows.specs.Inputs.{chosen}
use Rattle.container_draft.specs.Reading.{del_of, deletes, deletes_in, HoldEach, HoldEachOn, JoinsIf}
use Rattle.container_draft.specs.Lanes.{HoldsOn}
use Rattle.container_draft.proofs.Flags.{one_if, chosen_more, chosen_all}
use Rattle.container_draft.proofs.Joined.{asked_back, dels_back}

-- ---- one container more

hold_append : (m : Contents) (es : List Written) (via : List ℕ) (ks : List Container) (k : Container) (rows here : List Asked) → HoldEachOn m es via ks rows → HoldsOn m es k via here → HoldEachOn m es via (ks ++ k ∷ []) (rows ++ here)
hold_append m es via [] k rows here held one = (here, [], one, refl, ap (λ (xs : List Asked). xs ++ here) held ∙ sym (append-nil here))
hold_append m es via (j ∷ ks) k rows here (first, more, own, rest, is) one =
    (first, more ++ here, own, hold_append m es via ks k more here rest one, ap (λ (xs : List Asked). xs ++ here) is ∙ append_assoc first more here)

-- read where it is chosen
pub hold_more : (m : Contents) (es : List Written) (via : List ℕ) (i : ℕ) (flags : List Bool) (shown ks : List Container) (k : Container) (rows more : List Asked) → shown ≡ ks → i < length shown → k ≡ get_or shown i k
    → HoldEachOn m es via (chosen (take i flags) (take i ks)) rows → JoinsIf (slice_index_or flags i false) m es via k rows more → HoldEachOn m es via (chosen (take (i + 1) flags) (take (i + 1) ks)) more
hold_more m es via i flags shown ks k rows more same lt k_is held joins =
    let inside : i < length ks = omega (arith, lt, ap length same) in
    let here : k ≡ get_or ks i k = subst (λ (xs : List Container). k ≡ get_or xs i k) same k_is in
    by (slice_index_or flags i false) (chosen_more i flags ks k inside here) joins
  where
    by : (f : Bool) → chosen (take (i + 1) flags) (take (i + 1) ks) ≡ chosen (take i flags) (take i ks) ++ one_if f k → JoinsIf f m es via k rows more → HoldEachOn m es via (chosen (take (i + 1) flags) (take (i + 1) ks)) more
    by true are (one, own, is) =
        subst (λ (xs : List Container). HoldEachOn m es via xs more) (sym are)
        (subst (HoldEachOn m es via (chosen (take i flags) (take i ks) ++ k ∷ [])) (sym is) (hold_append m es via (chosen (take i flags) (take i ks)) k rows one held own))
    by false are is =
        subst (λ (xs : List Container). HoldEachOn m es via xs more) (sym (are ∙ append-nil (chosen (take i flags) (take i ks))))
        (subst (HoldEachOn m es via (chosen (take i flags) (take i ks))) (sym is) held)

pub hold_all : (m : Contents) (es : List Written) (via : List ℕ) (i : ℕ) (flags : List Bool) (shown ks : List Container) (rows : List Asked) → shown ≡ ks → length shown ≤ i → HoldEachOn m es via (chosen (take i flags) (take i ks)) rows
    → HoldEachOn m es via (chosen flags ks) rows
hold_all m es via i flags shown ks rows same done held = subst (λ (xs : List Container). HoldEachOn m es via xs rows) (chosen_all i flags ks (omega (arith, done, ap length same))) held

pub hold_none : (m : Contents) (es : List Written) (via : List ℕ) (flags : List Bool) (ks : List Container) (rows : List Asked) → rows ≡ [] → HoldEachOn m es via (chosen (take 0 flags) (take 0 ks)) rows
hold_none m es via flags ks rows none = none

-- ---- what is read is stored, with the deletes of now

-- the rows that were read, as they are stored
pub record AreStored (m : Contents) (es : List Written) (ks : List Container) (bs : List Beside) (asked : List Asked) : Type 0 where
  pub stored : List Stamped
  pub are : StoresRows m es ks bs stored
  pub rows : asked ≡ map asked_of stored

pub each_stored : (m : Contents) (es : List Written) (ks : List Container) (bs : List Beside) (asked : List Asked) → AllZip (λ k b. HoldsVector m k b.held) ks bs → HoldEach m es ks asked → AreStored m es ks bs asked
each_stored m es [] [] asked vectors held = record { stored = []; are = refl; rows = held }
each_stored m es [] (b ∷ bs) asked vectors held = absurd vectors
each_stored m es (k ∷ ks) [] asked vectors held = absurd vectors
each_stored m es (k ∷ ks) (b ∷ bs) asked vectors (here, more, own, rest, is) =
    let behind = each_stored m es ks bs more vectors.1 rest in
    let front : List Stamped = stamped_from 0 (mark_in b) here in
    record {
      stored = front ++ behind.stored;
      are = (front, behind.stored, vectors.0, (here, own, refl), behind.are, refl);
      rows = is ∙ ap₂ (λ (xs ys : List Asked). xs ++ ys) (sym (asked_back 0 (mark_in b) here)) behind.rows ∙ sym (map-append asked_of front behind.stored);
    }

-- and what is stored could be read
pub stored_each : (m : Contents) (es : List Written) (ks : List Container) (bs : List Beside) (stored : List Stamped) → StoresRows m es ks bs stored → HoldEach m es ks (map asked_of stored)
stored_each m es [] [] stored are = ap (map asked_of) are
stored_each m es [] (b ∷ bs) stored are = absurd are
stored_each m es (k ∷ ks) [] stored are = absurd are
stored_each m es (k ∷ ks) (b ∷ bs) stored (here, more, vector, (asked, own, marked), rest, is) = (
  asked,
  map asked_of more,
  own,
  stored_each m es ks bs more rest,
  ap (map asked_of) is ∙ map-append asked_of here more ∙ ap (λ (xs : List Asked). xs ++ map asked_of more) (ap (map asked_of) marked ∙ asked_back 0 (mark_in b) asked),
)

pub stored_deletes : (m : Contents) (es : List Written) (ks : List Container) (bs : List Beside) (stored : List Stamped) → StoresRows m es ks bs stored → deletes_in ks bs ≡ map del_of stored
stored_deletes m es [] [] stored are = sym (ap (map del_of) are)
stored_deletes m es [] (b ∷ bs) stored are = absurd are
stored_deletes m es (k ∷ ks) [] stored are = absurd are
stored_deletes m es (k ∷ ks) (b ∷ bs) stored (here, more, vector, (asked, own, marked), rest, is) =
    let one : deletes b k.rows ≡ map del_of here =
    ap (deletes b) (sym (container_long m es k asked own)) ∙ sym (dels_back 0 (mark_in b) asked) ∙ sym (ap (map del_of) marked) in
    ap₂ (λ (xs ys : List (Option ℕ)). xs ++ ys) one (stored_deletes m es ks bs more rest) ∙ sym (map-append del_of here more) ∙ sym (ap (map del_of) is)

pub stored_wide : (m : Contents) (es : List Written) (ks : List Container) (bs : List Beside) (stored : List Stamped) → StoresRows m es ks bs stored → AreWide (length es) (map asked_of stored)
stored_wide m es [] [] stored are = subst (λ (xs : List Stamped). AreWide (length es) (map asked_of xs)) (sym are) (All-nil (λ a. length a.row ≡ length es))
stored_wide m es [] (b ∷ bs) stored are = absurd are
stored_wide m es (k ∷ ks) [] stored are = absurd are
stored_wide m es (k ∷ ks) (b ∷ bs) stored (here, more, vector, (asked, own, marked), rest, is) =
    let one : AreWide (length es) (map asked_of here) = subst (AreWide (length es)) (sym (ap (map asked_of) marked ∙ asked_back 0 (mark_in b) asked)) own.wide in
    subst (AreWide (length es)) (sym (ap (map asked_of) is ∙ map-append asked_of here more))
    (All-append (λ (a : Asked). length a.row ≡ length es) (map asked_of here) (map asked_of more) one (stored_wide m es ks bs more rest))

pub held_wide : (m : Contents) (es : List Written) (ks : List Container) (asked : List Asked) → HoldEach m es ks asked → AreWide (length es) asked
held_wide m es [] asked held = subst (AreWide (length es)) (sym held) (All-nil (λ a. length a.row ≡ length es))
held_wide m es (k ∷ ks) asked (here, more, own, rest, is) =
    subst (AreWide (length es)) (sym is) (All-append (λ (a : Asked). length a.row ≡ length es) here more own.wide (held_wide m es ks more rest))
