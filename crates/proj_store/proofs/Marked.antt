-- Rows at places that are marked are taken.
use Rattle.std.proofs.Common.{◌≡◌, ◌+◌, ◌++◌, ℕ, suc, Bool, true, false, cond, List, [], ◌∷◌, map, refl, sym, ap, ap₂, ◌∙◌, subst, arith}
use Rattle.std.specs.Prelude.{Option, Some, None, ◌==◌, ◌||◌, find, option_map}
use Rattle.std.specs.Option.{option_or}
use Rattle.std.specs.List.{All}
use Rattle.std.proofs.lemmas.Bool.Decides.{nat_tests}
use Rattle.std.proofs.lemmas.List.Elements.{All-head, All-tail}
use Rattle.common_laws.proofs.BagLaws.{bag_refl}
use Rattle.common_laws.specs.Maps.{Contents}
use Rattle.col_value.specs.declared.row.Asked.{Asked}
use Rattle.col_value.specs.declared.row.Stamped.{Stamped}
use Rattle.row_history.specs.History.{stamped, Takes, Within}
use Rattle.catalog_types.specs.declared.catalogue.Container.{Container}
use Rattle.ros_container.specs.Encodings.{Written, written_of}
use Rattle.del_vector.specs.declared.mark.Mark.{Mark}
use Rattle.del_vector.specs.Marks.{epoch_at}
use Rattle.stored_rows.specs.Held.{stamped_from}
use Rattle.stored_rows.specs.Stored.{Beside, Projected, mark_in, StoresRows, Stores}
use Rattle.write_store.specs.Memory.{is_in, deleted_from, deleted_at}
use Rattle.wanted_rows.specs.Wanted.{tally}
use Rattle.wanted_rows.specs.Picked.{IsUndeleted, Picks}
use Rattle.wanted_rows.specs.Taking.{asked_of, Took, marked_at}
use Rattle.wanted_rows.proofs.Taking.{picks_took, took_append}
use Rattle.wanted_rows.proofs.Whole.{took_takes}
use Rattle.proj_store.specs.Marking.{marks_at, marked_beside, all_marked, Places, with_marks, PicksEach, del_of, IsPrepared}
use Rattle.proj_store.proofs.Epochs.{epochs_join}

pub epochs_of : (epoch : ℕ) (places : List ℕ) (i : ℕ) → epoch_at (marks_at epoch places) i ≡ cond (is_in i places) (Some epoch) None
epochs_of epoch [] i = refl
epochs_of epoch (p ∷ ps) i = by (p == i) (epochs_of epoch ps i)
  where
    by : (b : Bool) → option_map (λ (m : Mark). m.epoch) (find (λ m. m.position == i) (marks_at epoch ps)) ≡ cond (is_in i ps) (Some epoch) None
        → option_map (λ (m : Mark). m.epoch) (cond b (Some (record { position = p; epoch = epoch })) (find (λ m. m.position == i) (marks_at epoch ps))) ≡ cond (b || is_in i ps) (Some epoch) None
    by true rec = refl
    by false rec = rec

in_live : (mark : ℕ → Option ℕ) (rows : List Asked) (places : List ℕ) (i : ℕ) → All (IsUndeleted mark rows) places → is_in i places ≡ true → mark i ≡ None
in_live mark rows [] i live is = absurd (cc)
in_live mark rows (p ∷ ps) i live is = by (p == i) refl is (in_live mark rows ps i (All-tail (IsUndeleted mark rows) p ps live))
  where
    by : (b : Bool) → (p == i) ≡ b → (b || is_in i ps) ≡ true → (is_in i ps ≡ true → mark i ≡ None) → mark i ≡ None
    by true e is_b rec =
        let same : p ≡ i = grind (arith, nat_tests) in
        sym (ap mark same) ∙ (All-head (IsUndeleted mark rows) p ps live).live
    by false e is_b rec = rec is_b

three : (a b c : Option ℕ) (here : Bool) (epoch : ℕ) → c ≡ cond here (Some epoch) None → (here ≡ true → option_or a b ≡ None) → option_or a (option_or b c) ≡ cond here (Some epoch) (option_or a b)
three (Some x) b c true epoch is none = absurd (let t = none refl in cc)
three (Some x) b c false epoch is none = refl
three None (Some y) c true epoch is none = absurd (let t = none refl in cc)
three None (Some y) c false epoch is none = refl
three None None c true epoch is none = is
three None None c false epoch is none = is

-- the places that are marked, and no other, have the epoch
pub beside_marked : (epoch : ℕ) (b : Beside) (rows : List Asked) (places : List ℕ) → All (IsUndeleted (mark_in b) rows) places
    → (i : ℕ) → mark_in (marked_beside epoch b places) i ≡ cond (is_in i places) (Some epoch) (mark_in b i)
beside_marked epoch b rows places live i =
    ap (option_or (epoch_at b.held i)) (epochs_join b.fresh (marks_at epoch places) i)
    ∙ three (epoch_at b.held i) (epoch_at b.fresh i) (epoch_at (marks_at epoch places) i) (is_in i places) epoch (epochs_of epoch places i) (in_live (mark_in b) rows places i live)

took_same : (epoch : ℕ) (need left : Asked → ℕ) → ((q : Asked) → left q ≡ need q) → Took epoch [] [] need left
took_same epoch need left same = record {
  asked = [];
  taken = λ q. omega (arith, same q);
  takes = bag_refl [];
  none = λ j d lt. absurd (omega (arith, lt));
}

joined_took : (epoch : ℕ) (old here more new later : List Stamped) (need mid left : Asked → ℕ) → old ≡ here ++ more → Took epoch here new need mid → Took epoch more later mid left → Took epoch old (new ++ later) need left
joined_took epoch old here more new later need mid left is first rest =
    subst (λ (rows : List Stamped). Took epoch rows (new ++ later) need left) (sym is) (took_append epoch here new more later need mid left first rest)

-- the rows of the containers before and after the marking
pub each_took : (m : Contents) (es : List Written) (epoch : ℕ) (ks : List Container) (bs : List Beside) (each : List (List ℕ)) (need left : Asked → ℕ) (old : List Stamped)
    → PicksEach m es ks bs each need left → StoresRows m es ks bs old
    → (new : List Stamped) × StoresRows m es ks (all_marked epoch bs each) new × Took epoch old new need left
each_took m es epoch [] [] [] need left old picks stores =
    ([], refl, subst (λ (rows : List Stamped). Took epoch rows [] need left) (sym stores) (took_same epoch need left picks))
each_took m es epoch [] [] (places ∷ each) need left old picks stores = absurd picks
each_took m es epoch [] (b ∷ bs) each need left old picks stores = absurd stores
each_took m es epoch (k ∷ ks) [] each need left old picks stores = absurd picks
each_took m es epoch (k ∷ ks) (b ∷ bs) [] need left old picks stores = absurd picks
each_took m es epoch (k ∷ ks) (b ∷ bs) (places ∷ each) need left old (mid, picks_in, rest) (here, more, vector, (asked, held, here_is), others, is) =
    let picked : Picks (mark_in b) asked places need mid = picks_in asked held in
    let now : List Stamped = stamped_from 0 (mark_in (marked_beside epoch b places)) asked in
    let first : Took epoch here now need mid =
    subst (λ (rows : List Stamped). Took epoch rows now need mid) (sym here_is)
    (picks_took epoch (mark_in b) (mark_in (marked_beside epoch b places)) asked places need mid picked (beside_marked epoch b asked places picked.live)) in
    let tail = each_took m es epoch ks bs each mid left more rest others in (
      now ++ tail.0,
      (now, tail.0, vector, (asked, held, refl), tail.1, refl),
      joined_took epoch old here more now tail.0 need mid left is first tail.2,
    )

-- ---- rows in memory

first_at : (f : ℕ → Option ℕ) (k : ℕ) (o : Option ℕ) → f (k + 0) ≡ o → f k ≡ o
first_at f k o is = let same : k + 0 ≡ k = omega arith in sym (ap f same) ∙ is

rest_at : (f : ℕ → Option ℕ) (k : ℕ) (s : Stamped) (rows : List Stamped) → ((i : ℕ) → f (k + i) ≡ del_of (s ∷ rows) i) → (i : ℕ) → f ((k + 1) + i) ≡ del_of rows i
rest_at f k s rows is i = let same : (k + 1) + i ≡ k + suc i = omega arith in ap f same ∙ is (suc i)

as_stamped : (o : Option ℕ) (s : Stamped) → o ≡ s.del → stamped o (asked_of s) ≡ s
as_stamped o s is = ap (λ (d : Option ℕ). stamped d (asked_of s)) is

restamped : (k : ℕ) (f : ℕ → Option ℕ) (rows : List Stamped) → ((i : ℕ) → f (k + i) ≡ del_of rows i) → stamped_from k f (map asked_of rows) ≡ rows
restamped k f [] is = refl
restamped k f (s ∷ rows) is = ap₂ (λ (t : Stamped) (ts : List Stamped). t ∷ ts) (as_stamped (f k) s (first_at f k s.del (is 0))) (restamped (k + 1) f rows (rest_at f k s rows is))

marked_stamped : (b : Bool) (epoch : ℕ) (o : Option ℕ) (s : Stamped) → o ≡ s.del → stamped (cond b (Some epoch) o) (asked_of s) ≡ cond b (record s { del = Some epoch }) s
marked_stamped true epoch o s is = refl
marked_stamped false epoch o s is = as_stamped o s is

remarked : (k epoch : ℕ) (places : List ℕ) (f : ℕ → Option ℕ) (rows : List Stamped) → ((i : ℕ) → f (k + i) ≡ del_of rows i) → stamped_from k (marked_at epoch places f) (map asked_of rows) ≡ deleted_from k epoch places rows
remarked k epoch places f [] is = refl
remarked k epoch places f (s ∷ rows) is =
    ap₂ (λ (t : Stamped) (ts : List Stamped). t ∷ ts) (marked_stamped (is_in k places) epoch (f k) s (first_at f k s.del (is 0))) (remarked (k + 1) epoch places f rows (rest_at f k s rows is))

from_start : (rows : List Stamped) (i : ℕ) → del_of rows (0 + i) ≡ del_of rows i
from_start rows i = let same : 0 + i ≡ i = omega arith in ap (del_of rows) same

unsaved_took : (epoch : ℕ) (rows : List Stamped) (places : List ℕ) (need left : Asked → ℕ) → Picks (del_of rows) (map asked_of rows) places need left → Took epoch rows (deleted_at epoch places rows) need left
unsaved_took epoch rows places need left picks =
    subst (λ (old : List Stamped). Took epoch old (deleted_at epoch places rows) need left) (restamped 0 (del_of rows) rows (from_start rows))
    (subst (λ (new : List Stamped). Took epoch (stamped_from 0 (del_of rows) (map asked_of rows)) new need left) (remarked 0 epoch places (del_of rows) rows (from_start rows))
    (picks_took epoch (del_of rows) (marked_at epoch places (del_of rows)) (map asked_of rows) places need left picks (λ i. refl)))

-- ---- the whole projection

took_for : (epoch : ℕ) (old new : List Stamped) (need left : Asked → ℕ) (wanted : List Asked) → ((q : Asked) → need q ≡ tally q wanted) → Took epoch old new need left → Took epoch old new (λ q. tally q wanted) left
took_for epoch old new need left wanted same took = record { asked = took.asked; taken = λ q. sym (same q) ∙ took.taken q; takes = took.takes; none = took.none }

pub prepared_takes : (m : Contents) (epoch : ℕ) (p : Projected) (wanted : List Asked) (places : Places) (old : List Stamped) → IsPrepared m p wanted places → Stores m p old → Within wanted old
    → (new : List Stamped) × Stores m (with_marks epoch places p) new × Takes epoch wanted old new
prepared_takes m epoch p wanted places old ready (saved, stores, is) within =
    let on_disk = each_took m (written_of p.entry) epoch p.entry.containers p.beside places.each ready.need ready.mid saved ready.containers stores in
    let after : List Stamped = deleted_at epoch places.unsaved p.unsaved in
    let in_memory : Took epoch p.unsaved after ready.mid ready.left = unsaved_took epoch p.unsaved places.unsaved ready.mid ready.left ready.unsaved in
    let both : Took epoch old (on_disk.0 ++ after) ready.need ready.left = joined_took epoch old saved p.unsaved on_disk.0 after ready.need ready.mid ready.left is on_disk.2 in_memory in (
      on_disk.0 ++ after,
      (on_disk.0, on_disk.1, refl),
      took_takes epoch old (on_disk.0 ++ after) wanted ready.left (took_for epoch old (on_disk.0 ++ after) ready.need ready.left wanted ready.starts both) within,
    )
