-- What a whole walk leaves is what the definitions count over all tuples.
use Rattle.std.proofs.Common.{◌≡◌, ◌++◌, ℕ, ◌+◌, ◌<◌, ◌≤◌, Bool, true, false, cond, List, [], ◌∷◌, map, filter, Option, Some, None, refl, sym, ap, ap₂, ◌∙◌, arith}
use Rattle.std.specs.Prelude.{◌&&◌, ◌==◌, if◌then◌else◌}
use Rattle.std.specs.List.{All, count_by, enumerate_from}
use Rattle.std.specs.Ordering.{is_eq, is_le, is_lt, nat_cmp, ordering_then}
use Rattle.std.specs.declared.cmp.Ordering.{Ordering}
use Rattle.std.proofs.lemmas.Bool.Decides.{nat_tests}
use Rattle.std.proofs.lemmas.Cmp.{alike_right, tied_itself}
use Rattle.std.proofs.lemmas.List.{append_assoc, append-nil}
use Rattle.std.proofs.lemmas.List.Elements.{All-cons, All-head, All-nil, All-tail, All-weaker, filter-append}
use Rattle.std.proofs.lemmas.List.Sums.{sum_by-append}
use Rattle.col_value.specs.Laws.{tie_told}
use Rattle.col_value.specs.Order.{row_cmp}
use Rattle.col_value.specs.declared.value.Value.{Value}
use Rattle.col_value.specs.declared.wide.Wide.{Wide}
use Rattle.sql_bound.specs.declared.query.Aggregate.{Aggregate}
use Rattle.sql_bound.specs.declared.query.BoundWindow.{BoundWindow}
use Rattle.sql_bound.specs.Outputs.{aggregate_over, in_frame, is_numbered_before, number_cmp, window_cmp, window_over}
use Rattle.exec_group.specs.Accumulators.{worth_or_null}
use Rattle.exec_group.proofs.More.{worth_over}
use Rattle.query_laws.proofs.Numbered.{counts_cons}
use Rattle.query_laws.proofs.WindowOrders.{number_total, window_itself}
use Rattle.exec_window.specs.declared.walk.Step.{Step}
use Rattle.exec_window.specs.Walks.{AllFit, IsGreat, Seen, frame_of, next_at, shared, step_of, steps, value_of_step, walk_cmp}
use Rattle.exec_window.proofs.Orders.{Rises, at_most, beyond, less_of, less_through}
use Rattle.exec_window.proofs.Walking.{IsAt, IsState, Early, Placed, all_more, before, between, by_window, count_none, count_same, each, early_number, early_window, filter_alike, filter_none, goes_on, of_part, own_part, part, parts_alike, parts_equal, placed_total, rows_of_part, stands_on}

abbrev one_if : Bool → ℕ
one_if b = cond b 1 0

-- a list that splits at a tuple
counts_split : {X : Type 0} (p : X → Bool) (front : List X) (x : X) (back : List X) → count_by p (front ++ x ∷ back) ≡ count_by p front + (cond (p x) 1 0 + count_by p back)
counts_split p front x back = omega (arith, sum_by-append (λ z. cond (p z) 1 0) front (x ∷ back), counts_cons p x back)

-- ---- places stand once

pub none_from : (m n : ℕ) (rows : List (List Value)) → m < n → count_by (λ (k : Placed). k.0 == m) (enumerate_from n rows) ≡ 0
none_from m n [] h = refl
none_from m n (row ∷ rows) h =
    let other : (n == m) ≡ false = grind (arith, nat_tests) in
    let here = ap one_if other in
    omega (arith, counts_cons (λ (k : Placed). k.0 == m) (n, row) (enumerate_from (n + 1) rows), none_from m (n + 1) rows (omega arith))

pub once_from : (m n : ℕ) (rows : List (List Value)) → count_by (λ (k : Placed). k.0 == m) (enumerate_from n rows) ≤ 1
once_from m n [] = omega arith
once_from m n (row ∷ rows) =
    elim (n == m) as (λ b. (n == m) ≡ b → count_by (λ (k : Placed). k.0 == m) (enumerate_from n (row ∷ rows)) ≤ 1) [
      | true ↦ λ e.
          let same : n ≡ m = grind (arith, nat_tests) in
          let here = ap one_if e in
          omega (arith, counts_cons (λ (k : Placed). k.0 == m) (n, row) (enumerate_from (n + 1) rows), none_from m (n + 1) rows (omega arith))
      | false ↦ λ e.
          let here = ap one_if e in
          omega (arith, counts_cons (λ (k : Placed). k.0 == m) (n, row) (enumerate_from (n + 1) rows), once_from m (n + 1) rows)
    ] refl

none_counted : {X : Type 0} (p : X → Bool) (xs : List X) → count_by p xs ≡ 0 → All (λ x. p x ≡ false) xs
none_counted p [] e = All-nil (λ x. p x ≡ false)
none_counted {X} p (x ∷ xs) e =
    All-cons (λ (z : X). p z ≡ false) x xs (by (p x) refl) (none_counted p xs (omega (arith, counts_cons p x xs)))
  where
    by : (b : Bool) → p x ≡ b → p x ≡ false
    by true h = let here = ap one_if h in absurd (omega (arith, counts_cons p x xs))
    by false h = h

third_tied : (x y z : Ordering) → ordering_then x (ordering_then y z) ≡ Ordering.Equal → z ≡ Ordering.Equal
third_tied Ordering.Less y z e = cc
third_tied Ordering.Greater y z e = cc
third_tied Ordering.Equal Ordering.Less z e = cc
third_tied Ordering.Equal Ordering.Greater z e = cc
third_tied Ordering.Equal Ordering.Equal z e = e

none_and : (b : Bool) → (b && false) ≡ false
none_and true = refl
none_and false = refl

module _ (w : BoundWindow) (a : Aggregate) where
  part_back : (t k : Placed) → of_part w a t k ≡ true → of_part w a k t ≡ true
  part_back t k e = ap (λ (p : List Value). is_eq (row_cmp (part w a k) p)) (parts_equal w a t k e) ∙ own_part w a k

  places_apart : (t k : Placed) → (k.0 == t.0) ≡ false → is_eq (number_cmp w k t) ≡ false
  places_apart t k other =
      elim (is_eq (number_cmp w k t)) as (λ b. is_eq (number_cmp w k t) ≡ b → b ≡ false) [
        | true ↦ λ e.
            let tied : nat_cmp k.0 t.0 ≡ Ordering.Equal = third_tied (window_cmp w.order k.1 t.1) (row_cmp k.1 t.1) (nat_cmp k.0 t.0) (tie_told (number_cmp w k t) e) in
            let same : (k.0 == t.0) ≡ true = grind (arith, nat_tests) in
            sym same ∙ other
        | false ↦ λ e. refl
      ] refl

  numbered_of : (t k : Placed) → Early w a t k → (k.0 == t.0) ≡ false → is_numbered_before w t k ≡ of_part w a t k
  numbered_of t k h other =
      elim (of_part w a t k) as (λ b. of_part w a t k ≡ b → (b && is_lt (number_cmp w k t)) ≡ b) [
        | true ↦ λ same. less_of (number_cmp w) (number_total w) k t (early_number w a t k h same) (places_apart t k other)
        | false ↦ λ none. refl
      ] refl

  later_number : (t u : Placed) → Early w a u t → is_numbered_before w t u ≡ false
  later_number t u h =
      elim (of_part w a t u) as (λ b. of_part w a t u ≡ b → (b && is_lt (number_cmp w u t)) ≡ false) [
        | true ↦ λ same. early_number w a u t h (part_back t u same)
        | false ↦ λ none. refl
      ] refl

  later_before : (t u : Placed) → Early w a u t → before w a t u ≡ false
  later_before t u h =
      elim (of_part w a t u) as (λ b. of_part w a t u ≡ b → (b && is_lt (by_window w a u t)) ≡ false) [
        | true ↦ λ same. early_window w a u t h (part_back t u same)
        | false ↦ λ none. refl
      ] refl

  own_number : (t : Placed) → is_numbered_before w t t ≡ false
  own_number t = ap (λ (o : Ordering). of_part w a t t && is_lt o) (tied_itself (number_total w) t) ∙ none_and (of_part w a t t)

  own_before : (t : Placed) → before w a t t ≡ false
  own_before t = ap (λ (o : Ordering). of_part w a t t && is_lt o) (window_itself w.order t.1) ∙ none_and (of_part w a t t)

  abbrev framed : Placed → Placed → Bool
  framed t k = in_frame w t.1 k.1

  frame_early : (t k : Placed) → Early w a t k → framed t k ≡ of_part w a t k
  frame_early t k h =
      elim (of_part w a t k) as (λ b. of_part w a t k ≡ b → (b && is_le (by_window w a k t)) ≡ b) [
        | true ↦ λ same. at_most (by_window w a) (placed_total w a) k t (early_window w a t k h same)
        | false ↦ λ none. refl
      ] refl

  frame_own : (t : Placed) → framed t t ≡ of_part w a t t
  frame_own t = ap (λ (o : Ordering). of_part w a t t && is_le o) (window_itself w.order t.1) ∙ all_and (of_part w a t t)
    where
      all_and : (b : Bool) → (b && true) ≡ b
      all_and true = refl
      all_and false = refl

  abbrev peers : Placed → Placed → Bool
  peers t u = of_part w a u t && is_eq (by_window w a t u)

  unlike : (t u : Placed) → of_part w a u t ≡ true → peers t u ≡ false → is_eq (by_window w a t u) ≡ false
  unlike t u e h = sym (ap (λ (b : Bool). b && is_eq (by_window w a t u)) e) ∙ h

  -- where the next tuple is no peer, none behind it is of the frame
  frame_late : (t u k : Placed) → Early w a u t → Early w a k u → peers t u ≡ false → framed t k ≡ false
  frame_late t u k h g apart =
      elim (of_part w a t k) as (λ b. of_part w a t k ≡ b → (b && is_le (by_window w a k t)) ≡ false) [
        | true ↦ λ same.
            let back : of_part w a k t ≡ true = part_back t k same in
            let mid : of_part w a k u ≡ true = between w a t u k h g back in
            let here : of_part w a u t ≡ true = sym (parts_alike w a k u mid t) ∙ back in
            let less : is_lt (by_window w a t u) ≡ true = less_of (by_window w a) (placed_total w a) t u (early_window w a u t h here) (unlike t u here apart) in
            beyond (by_window w a) (placed_total w a) k t (less_through (by_window w a) (placed_total w a) t u k less (early_window w a k u g mid))
        | false ↦ λ none. refl
      ] refl

  frame_next : (t u : Placed) → Early w a u t → peers t u ≡ false → framed t u ≡ false
  frame_next t u h apart =
      elim (of_part w a t u) as (λ b. of_part w a t u ≡ b → (b && is_le (by_window w a u t)) ≡ false) [
        | true ↦ λ same.
            let here : of_part w a u t ≡ true = part_back t u same in
            beyond (by_window w a) (placed_total w a) u t (less_of (by_window w a) (placed_total w a) t u (early_window w a u t h here) (unlike t u here apart))
        | false ↦ λ none. refl
      ] refl

  left_true : (x y : Bool) → (x && y) ≡ true → x ≡ true
  left_true true y e = refl
  left_true false y e = cc

  right_true : (x y : Bool) → (x && y) ≡ true → y ≡ true
  right_true true y e = e
  right_true false y e = cc

  frame_peers : (t u : Placed) → peers t u ≡ true → (k : Placed) → framed t k ≡ framed u k
  frame_peers t u e k =
      let same : of_part w a u t ≡ true = left_true (of_part w a u t) (is_eq (by_window w a t u)) e in
      let tied : by_window w a t u ≡ Ordering.Equal = tie_told (by_window w a t u) (right_true (of_part w a u t) (is_eq (by_window w a t u)) e) in
      ap₂ (λ (b : Bool) (o : Ordering). b && is_le o) (sym (parts_alike w a u t same k)) (alike_right (placed_total w a) t u k tied)

  -- ---- the whole list

  module _ (s : List Placed) (apart : (t : Placed) → count_by (λ k. k.0 == t.0) s ≤ 1) where
    abbrev frame_rows : Placed → List (List Value)
    frame_rows t = map (λ k. k.1) (filter (framed t) s)

    abbrev frame_at : Placed → Wide
    frame_at t = aggregate_over (frame_rows t) a

    abbrev pub value_in : Placed → Wide
    value_in t = window_over w.kind (count_by (is_numbered_before w t) s) (count_by (before w a t) s) (frame_at t)

    others_apart : (pre : List Placed) (t : Placed) (js : List Placed) → s ≡ pre ++ t ∷ js → All (λ k. (k.0 == t.0) ≡ false) pre
    others_apart pre t js e =
        let one = apart t in
        let split = ap (count_by (λ (k : Placed). k.0 == t.0)) e ∙ counts_split (λ (k : Placed). k.0 == t.0) pre t js in
        let same : (t.0 == t.0) ≡ true = grind (arith, nat_tests) in
        let here = ap one_if same in
        none_counted (λ (k : Placed). k.0 == t.0) pre (omega arith)

    both_all : (P Q : Placed → Type 0) (ks : List Placed) → All P ks → All Q ks → All (λ k. P k × Q k) ks
    both_all P Q [] h g = All-nil (λ k. P k × Q k)
    both_all P Q (k ∷ ks) h g = All-cons (λ z. P z × Q z) k ks (All-head P k ks h, All-head Q k ks g) (both_all P Q ks (All-tail P k ks h) (All-tail Q k ks g))

    numbers_are : (pre : List Placed) (t : Placed) (js : List Placed) → s ≡ pre ++ t ∷ js → All (Early w a t) pre → All (λ u. Early w a u t) js
        → count_by (is_numbered_before w t) s ≡ count_by (of_part w a t) pre
    numbers_are pre t js e early late =
        let split = ap (count_by (is_numbered_before w t)) e ∙ counts_split (is_numbered_before w t) pre t js in
        let front = count_same (is_numbered_before w t) (of_part w a t) pre
        (All-weaker (λ k. Early w a t k × ((k.0 == t.0) ≡ false)) (λ k. is_numbered_before w t k ≡ of_part w a t k) (λ k h. numbered_of t k h.0 h.1) pre
        (both_all (Early w a t) (λ k. (k.0 == t.0) ≡ false) pre early (others_apart pre t js e))) in
        let back = count_none (is_numbered_before w t) js (All-weaker (λ u. Early w a u t) (λ u. is_numbered_before w t u ≡ false) (λ u h. later_number t u h) js late) in
        let here = ap one_if (own_number t) in
        omega arith

    befores_are : (pre : List Placed) (t : Placed) (js : List Placed) → s ≡ pre ++ t ∷ js → All (λ u. Early w a u t) js → count_by (before w a t) s ≡ count_by (before w a t) pre
    befores_are pre t js e late =
        let split = ap (count_by (before w a t)) e ∙ counts_split (before w a t) pre t js in
        let back = count_none (before w a t) js (All-weaker (λ u. Early w a u t) (λ u. before w a t u ≡ false) (λ u h. later_before t u h) js late) in
        let here = ap one_if (own_before t) in
        omega arith

    -- up to a tuple its frame is its partition
    front_frame : (pre : List Placed) (t : Placed) → All (Early w a t) pre → filter (framed t) (pre ++ t ∷ []) ≡ filter (of_part w a t) (pre ++ t ∷ [])
    front_frame pre t early =
        filter_alike (framed t) (of_part w a t) (pre ++ t ∷ [])
        (all_more (λ k. framed t k ≡ of_part w a t k) pre t (All-weaker (Early w a t) (λ k. framed t k ≡ of_part w a t k) (λ k h. frame_early t k h) pre early) (frame_own t))

    whole_frame : (pre : List Placed) (t : Placed) (js : List Placed) → s ≡ pre ++ t ∷ js → All (Early w a t) pre → filter (framed t) js ≡ [] → frame_rows t ≡ rows_of_part w a t (pre ++ t ∷ [])
    whole_frame pre t js e early none =
        ap (map (λ (k : Placed). k.1))
        (ap (filter (framed t)) (e ∙ sym (append_assoc pre (t ∷ []) js))
        ∙ filter-append (framed t) (pre ++ t ∷ []) js
        ∙ ap₂ (λ (xs ys : List Placed). xs ++ ys) (front_frame pre t early) none
        ∙ append-nil (filter (of_part w a t) (pre ++ t ∷ [])))

    own_frame : (pre : List Placed) (at : Seen) (js : List Placed) → s ≡ pre ++ at.tuple ∷ js → All (Early w a at.tuple) pre → IsAt w a pre at → (IsGreat at → ⊥) → filter (framed at.tuple) js ≡ []
        → worth_or_null at.sum ≡ frame_at at.tuple
    own_frame pre at js e early is fits none =
        ap worth_or_null is.sum
        ∙ worth_over (rows_of_part w a at.tuple (pre ++ at.tuple ∷ [])) a (λ g. fits (is.sum ∙ g))
        ∙ ap (λ (rows : List (List Value)). aggregate_over rows a) (sym (whole_frame pre at.tuple js e early none))

    -- what a walk still has before it rises, and stands behind what it has behind it
    pub record Ahead (pre js : List Placed) : Type 0 where
      pub rises : Rises (λ y x. is_lt (walk_cmp w y x)) js
      pub behind : All (λ t. All (Early w a t) pre) js

    pub ahead_more : (pre : List Placed) (t : Placed) (js : List Placed) → Ahead pre (t ∷ js) → Ahead (pre ++ t ∷ []) js
    ahead_more pre t js h = record {
      rises = h.rises.1;
      behind = All-weaker (λ u. All (Early w a u) pre × Early w a u t) (λ u. All (Early w a u) (pre ++ t ∷ [])) (λ u g. all_more (Early w a u) pre t g.0 g.1) js
          (both_all (λ u. All (Early w a u) pre) (λ u. Early w a u t) js (All-tail (λ u. All (Early w a u) pre) t js h.behind) h.rises.0);
    }

    pub first_early : (pre : List Placed) (t : Placed) (js : List Placed) → Ahead pre (t ∷ js) → All (Early w a t) pre
    first_early pre t js h = All-head (λ u. All (Early w a u) pre) t js h.behind

    next_place : (pre : List Placed) (t : Placed) (js : List Placed) → s ≡ pre ++ t ∷ js → s ≡ (pre ++ t ∷ []) ++ js
    next_place pre t js e = e ∙ sym (append_assoc pre (t ∷ []) js)

    frames_are : (pre : List Placed) (o : Option Seen) (t : Placed) (js : List Placed) → s ≡ pre ++ t ∷ js → IsState w a pre o → Ahead pre (t ∷ js) → AllFit w a o (t ∷ js)
        → frame_of (step_of (next_at w a o t)) (shared (steps w a (Some (next_at w a o t)) js)) ≡ frame_at t
    frames_are pre o t [] e st h fit = own_frame pre (next_at w a o t) [] e (first_early pre t [] h) (goes_on w a pre o t st (first_early pre t [] h)) fit.0 refl
    frames_are pre o t (u ∷ js) e st h fit =
        let at = next_at w a o t in
        let early = first_early pre t (u ∷ js) h in
        let next = frames_are (pre ++ t ∷ []) (Some at) u js (next_place pre t (u ∷ js) e) (stands_on w a pre o t st early) (ahead_more pre t (u ∷ js) h) fit.1 in
        let later : Early w a u t = All-head (λ y. Early w a y t) u js h.rises.0 in
        elim (peers t u) as (λ b. peers t u ≡ b →
        frame_of (step_of at) (if b then Some (frame_of (step_of (next_at w a (Some at) u)) (shared (steps w a (Some (next_at w a (Some at) u)) js))) else None) ≡ frame_at t) [
          | true ↦ λ same.
              next ∙ ap (λ (ks : List Placed). aggregate_over (map (λ (k : Placed). k.1) ks) a) (sym (filter_alike (framed t) (framed u) s (each (λ k. framed t k ≡ framed u k) s (frame_peers t u same))))
          | false ↦ λ other.
              own_frame pre at (u ∷ js) e early (goes_on w a pre o t st early) fit.0
              (filter_none (framed t) (u ∷ js)
              (All-cons (λ k. framed t k ≡ false) u js (frame_next t u later other)
              (All-weaker (λ k. Early w a k u) (λ k. framed t k ≡ false) (λ k g. frame_late t u k later g other) js h.rises.1.0)))
        ] refl

    -- each step is that of its tuple
    abbrev pub Fill : List Placed → List Step → Type 0
    Fill [] [] = Unit {0}
    Fill [] (x ∷ xs) = ⊥
    Fill (t ∷ ts) [] = ⊥
    Fill (t ∷ ts) (x ∷ xs) = (x.place ≡ t.0) × (value_of_step w.kind x (frame_of x (shared xs)) ≡ value_in t) × Fill ts xs

    pub fills : (pre : List Placed) (o : Option Seen) (js : List Placed) → s ≡ pre ++ js → IsState w a pre o → Ahead pre js → AllFit w a o js → Fill js (steps w a o js)
    fills pre o [] e st h fit = tt
    fills pre o (t ∷ js) e st h fit =
        let at = next_at w a o t in
        let early = first_early pre t js h in
        let is = goes_on w a pre o t st early in (
          refl,
          ap₂ (λ (n m : ℕ). window_over w.kind n m (frame_of (step_of at) (shared (steps w a (Some at) js)))) (is.numbered ∙ sym (numbers_are pre t js e early h.rises.0)) (is.before ∙ sym (befores_are pre t js e h.rises.0))
              ∙ ap (window_over w.kind (count_by (is_numbered_before w t) s) (count_by (before w a t) s)) (frames_are pre o t js e st h fit),
          fills (pre ++ t ∷ []) (Some at) js (next_place pre t js e) (stands_on w a pre o t st early) (ahead_more pre t js h) fit.1,
        )

    pub all_filled : Rises (λ y x. is_lt (walk_cmp w y x)) s → AllFit w a None s → Fill s (steps w a None s)
    all_filled up fit = fills [] None s refl refl (record { rises = up; behind = each (λ t. All (Early w a t) []) s (λ t. All-nil (Early w a t)) }) fit
