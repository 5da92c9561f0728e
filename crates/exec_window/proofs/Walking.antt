-- Where a walk stands, by what it has behind it.
use Rattle.std.proofs.Common.{◌≡◌, ◌++◌, ℕ, ◌+◌, Bool, true, false, cond, List, [], ◌∷◌, map, filter, Option, Some, None, refl, sym, ap, ap₂, ◌∙◌, arith, subst}
use Rattle.std.specs.Prelude.{◌&&◌, if◌then◌else◌}
use Rattle.std.specs.Cmp.{IsTotalOrder}
use Rattle.std.specs.List.{All, count_by}
use Rattle.std.specs.Ordering.{is_eq, is_lt, ordering_then}
use Rattle.std.specs.declared.cmp.Ordering.{Ordering}
use Rattle.std.proofs.lemmas.Cmp.{alike_right, on_total, then_total}
use Rattle.std.proofs.lemmas.List.{map-append}
use Rattle.std.proofs.lemmas.List.Elements.{All-append, All-cons, All-head, All-nil, All-tail, All-weaker, filter-append}
use Rattle.col_value.specs.Laws.{row_total, tie_told}
use Rattle.col_value.specs.Order.{row_cmp}
use Rattle.col_value.specs.declared.value.Value.{Value}
use Rattle.sql_bound.specs.declared.query.Aggregate.{Aggregate}
use Rattle.sql_bound.specs.declared.query.BoundWindow.{BoundWindow}
use Rattle.sql_bound.specs.Outputs.{in_partition, keys_of, number_cmp, same_keys, stands_before, window_cmp}
use Rattle.exec_group.specs.Accumulators.{accumulated, accumulated_over, argument_in, taken}
use Rattle.exec_group.specs.declared.accumulator.Accumulator.{Accumulator}
use Rattle.exec_group.proofs.More.{no_values, row_taken}
use Rattle.query_laws.proofs.Numbered.{counts_cons, counts_more}
use Rattle.query_laws.proofs.Once.{same_equal, same_itself}
use Rattle.query_laws.proofs.WindowOrders.{number_total, window_total}
use Rattle.exec_window.specs.Walks.{Seen, fresh_of, next_at, walk_cmp}
use Rattle.exec_window.proofs.Orders.{less_of, neither, through_less}

abbrev pub Placed : Type 0
Placed = ℕ × List Value

abbrev one_if : Bool → ℕ
one_if b = cond b 1 0

-- ---- lists

pub count_same : {X : Type 0} (p q : X → Bool) (xs : List X) → All (λ x. p x ≡ q x) xs → count_by p xs ≡ count_by q xs
count_same p q [] h = refl
count_same {X} p q (x ∷ xs) h =
    let here = ap one_if (All-head (λ (z : X). p z ≡ q z) x xs h) in
    omega (arith, counts_cons p x xs, counts_cons q x xs, count_same p q xs (All-tail (λ z. p z ≡ q z) x xs h))

pub count_none : {X : Type 0} (p : X → Bool) (xs : List X) → All (λ x. p x ≡ false) xs → count_by p xs ≡ 0
count_none p [] h = refl
count_none {X} p (x ∷ xs) h =
    let here = ap one_if (All-head (λ (z : X). p z ≡ false) x xs h) in
    omega (arith, counts_cons p x xs, count_none p xs (All-tail (λ z. p z ≡ false) x xs h))

pub filter_alike : {X : Type 0} (p q : X → Bool) (xs : List X) → All (λ x. p x ≡ q x) xs → filter p xs ≡ filter q xs
filter_alike p q [] h = refl
filter_alike {X} p q (x ∷ xs) h =
    ap₂ (λ (b : Bool) (rest : List X). cond b (x ∷ rest) rest) (All-head (λ (z : X). p z ≡ q z) x xs h) (filter_alike p q xs (All-tail (λ z. p z ≡ q z) x xs h))

pub filter_none : {X : Type 0} (p : X → Bool) (xs : List X) → All (λ x. p x ≡ false) xs → filter p xs ≡ []
filter_none p [] h = refl
filter_none {X} p (x ∷ xs) h =
    ap₂ (λ (b : Bool) (rest : List X). cond b (x ∷ rest) rest) (All-head (λ (z : X). p z ≡ false) x xs h) (filter_none p xs (All-tail (λ z. p z ≡ false) x xs h))

pub each : {X : Type 0} (P : X → Type 0) (xs : List X) → ((x : X) → P x) → All P xs
each P [] h = All-nil P
each P (x ∷ xs) h = All-cons P x xs (h x) (each P xs h)

pub all_more : {X : Type 0} (P : X → Type 0) (xs : List X) (x : X) → All P xs → P x → All P (xs ++ x ∷ [])
all_more P xs x h k = All-append P xs (x ∷ []) h (All-cons P x [] k (All-nil P))

pub filter_one : {X : Type 0} (p : X → Bool) (x : X) → p x ≡ true → filter p (x ∷ []) ≡ x ∷ []
filter_one {X} p x e = ap (λ (b : Bool). cond b (x ∷ []) []) e

-- ---- one window

pub walk_total : (w : BoundWindow) → IsTotalOrder (walk_cmp w)
walk_total w = then_total (on_total (λ (t : Placed). keys_of w.partition t.1) row_total) (number_total w)

module _ (w : BoundWindow) (a : Aggregate) where
  abbrev pub part : Placed → List Value
  part t = keys_of w.partition t.1

  abbrev pub of_part : Placed → Placed → Bool
  of_part t k = in_partition w t.1 k.1

  abbrev pub before : Placed → Placed → Bool
  before t k = stands_before w t.1 k.1

  abbrev pub by_window : Placed → Placed → Ordering
  by_window x y = window_cmp w.order x.1 y.1

  pub placed_total : IsTotalOrder by_window
  placed_total = on_total (λ (t : Placed). t.1) (window_total w.order)

  part_total : IsTotalOrder (λ (x y : Placed). row_cmp (part x) (part y))
  part_total = on_total part row_total

  -- k doesn't stand behind t in the walk
  abbrev pub Early : Placed → Placed → Type 0
  Early t k = is_lt (walk_cmp w t k) ≡ false

  first_less : (x y : Ordering) → is_lt (ordering_then x y) ≡ false → is_lt x ≡ false
  first_less Ordering.Less y h = h
  first_less Ordering.Equal y h = refl
  first_less Ordering.Greater y h = refl

  pub second_less : (x y : Ordering) → is_lt (ordering_then x y) ≡ false → x ≡ Ordering.Equal → is_lt y ≡ false
  second_less Ordering.Less y h e = cc
  second_less Ordering.Equal y h e = h
  second_less Ordering.Greater y h e = cc

  early_part : (t k : Placed) → Early t k → is_lt (row_cmp (part t) (part k)) ≡ false
  early_part t k h = first_less (row_cmp (part t) (part k)) (number_cmp w t k) h

  pub parts_equal : (t k : Placed) → of_part t k ≡ true → part t ≡ part k
  parts_equal t k h = same_equal (part t) (part k) h

  parts_tied : (t k : Placed) → of_part t k ≡ true → row_cmp (part t) (part k) ≡ Ordering.Equal
  parts_tied t k h = tie_told (row_cmp (part t) (part k)) h

  pub early_number : (t k : Placed) → Early t k → of_part t k ≡ true → is_lt (number_cmp w t k) ≡ false
  early_number t k h e = second_less (row_cmp (part t) (part k)) (number_cmp w t k) h (parts_tied t k e)

  pub early_window : (t k : Placed) → Early t k → of_part t k ≡ true → is_lt (by_window t k) ≡ false
  early_window t k h e = first_less (by_window t k) _ (early_number t k h e)

  -- of one partition as another tuple is
  pub parts_alike : (t i : Placed) → of_part t i ≡ true → (k : Placed) → of_part t k ≡ of_part i k
  parts_alike t i e k = ap (λ (p : List Value). same_keys p (part k)) (parts_equal t i e)

  -- what stands between two of one partition is of it
  pub between : (k i t : Placed) → Early i k → Early t i → of_part t k ≡ true → of_part t i ≡ true
  between k i t h g e =
      let left : is_lt (row_cmp (part i) (part t)) ≡ false = ap (λ (p : List Value). is_lt (row_cmp (part i) p)) (parts_equal t k e) ∙ early_part i k h in
      ap is_eq (neither (λ (x y : Placed). row_cmp (part x) (part y)) part_total t i (early_part t i g) left)

  pub apart_before : (k i t : Placed) → Early i k → Early t i → of_part t i ≡ false → of_part t k ≡ false
  apart_before k i t h g e =
      elim (of_part t k) as (λ b. of_part t k ≡ b → b ≡ false) [
        | true ↦ λ same. sym (between k i t h g same) ∙ e
        | false ↦ λ none. refl
      ] refl

  no_frames : (t k : Placed) → of_part t k ≡ false → before t k ≡ false
  no_frames t k e = ap (λ (b : Bool). b && is_lt (by_window k t)) e

  -- a tuple that isn't a peer of the last one has all of its partition before it
  before_all : (k i t : Placed) → Early i k → Early t i → of_part t i ≡ true → is_eq (by_window i t) ≡ false → before t k ≡ of_part t k
  before_all k i t h g e unlike =
      elim (of_part t k) as (λ b. of_part t k ≡ b → (b && is_lt (by_window k t)) ≡ b) [
        | true ↦ λ same.
            let here : of_part i k ≡ true = sym (parts_alike t i e k) ∙ same in
            through_less by_window placed_total k i t (early_window i k h here) (less_of by_window placed_total i t (early_window t i g e) unlike)
        | false ↦ λ none. refl
      ] refl

  before_last : (i t : Placed) → Early t i → of_part t i ≡ true → is_eq (by_window i t) ≡ false → before t i ≡ of_part t i
  before_last i t g e unlike =
      elim (of_part t i) as (λ b. of_part t i ≡ b → (b && is_lt (by_window i t)) ≡ b) [
        | true ↦ λ same. less_of by_window placed_total i t (early_window t i g e) unlike
        | false ↦ λ none. refl
      ] refl

  -- peers have the same before them
  peers_before : (i t : Placed) → of_part t i ≡ true → is_eq (by_window i t) ≡ true → (k : Placed) → before t k ≡ before i k
  peers_before i t e peer k =
      ap₂ (λ (b : Bool) (o : Ordering). b && is_lt o) (parts_alike t i e k) (sym (alike_right placed_total i t k (tie_told (by_window i t) peer)))

  peers_apart : (i t : Placed) → is_eq (by_window i t) ≡ true → before t i ≡ false
  peers_apart i t peer = ap (λ (o : Ordering). of_part t i && is_lt o) (tie_told (by_window i t) peer) ∙ none (of_part t i)
    where
      none : (b : Bool) → (b && false) ≡ false
      none true = refl
      none false = refl

  pub own_part : (t : Placed) → of_part t t ≡ true
  own_part t = same_itself (part t)

  abbrev pub rows_of_part : Placed → List Placed → List (List Value)
  rows_of_part t ks = map (λ k. k.1) (filter (of_part t) ks)

  pub more_of_part : (t : Placed) (ks : List Placed) → rows_of_part t (ks ++ t ∷ []) ≡ rows_of_part t ks ++ t.1 ∷ []
  more_of_part t ks =
      ap (map (λ (k : Placed). k.1)) (filter-append (of_part t) ks (t ∷ []) ∙ ap (λ (l : List Placed). filter (of_part t) ks ++ l) (filter_one (of_part t) t (own_part t)))
      ∙ map-append (λ (k : Placed). k.1) (filter (of_part t) ks) (t ∷ [])

  -- a walk that stands at a tuple, behind others
  pub record IsAt (front : List Placed) (at : Seen) : Type 0 where
    pub numbered : at.numbered ≡ count_by (of_part at.tuple) front
    pub before : at.before ≡ count_by (before at.tuple) front
    pub sum : at.sum ≡ accumulated_over (rows_of_part at.tuple (front ++ at.tuple ∷ [])) a

  abbrev pub IsState : List Placed → Option Seen → Type 0
  IsState pre None = pre ≡ []
  IsState pre (Some at) = (front : List Placed) × (pre ≡ front ++ at.tuple ∷ []) × All (Early at.tuple) front × IsAt front at

  fresh_is : fresh_of a ≡ accumulated_over [] a
  fresh_is = ap (λ ws. accumulated a.kind 0 ws) (sym (no_values a.arg))

  sum_more : (t : Placed) (ks : List Placed) (sum : Accumulator) → sum ≡ accumulated_over (rows_of_part t ks) a
      → taken sum (argument_in a.arg t.1) ≡ accumulated_over (rows_of_part t (ks ++ t ∷ [])) a
  sum_more t ks sum e =
      ap (λ (s : Accumulator). taken s (argument_in a.arg t.1)) e ∙ row_taken (rows_of_part t ks) t.1 a
      ∙ ap (λ (rows : List (List Value)). accumulated_over rows a) (sym (more_of_part t ks))

  first_at : (t : Placed) → IsAt [] (next_at w a None t)
  first_at t = record { numbered = refl; before = refl; sum = sum_more t [] (fresh_of a) fresh_is }

  module _ (front : List Placed) (at : Seen) (t : Placed) (rise : All (Early at.tuple) front) (is : IsAt front at) (late : Early t at.tuple) where
    joined : of_part t at.tuple ≡ true → IsAt (front ++ at.tuple ∷ []) (next_at w a (Some at) t)
    joined e = record {
      numbered =
          ap (λ (b : Bool). if b then at.numbered + 1 else 0) e
          ∙ sym (counts_more (of_part t) front at.tuple ∙ ap₂ (λ (n : ℕ) (b : Bool). n + one_if b) (count_same (of_part t) (of_part at.tuple) front (each (λ k. of_part t k ≡ of_part at.tuple k) front (parts_alike t at.tuple e)) ∙ sym is.numbered) e);
      before = elim (is_eq (by_window at.tuple t)) as (λ b. is_eq (by_window at.tuple t) ≡ b →
          (if of_part t at.tuple && b then at.before else (if of_part t at.tuple then at.numbered + 1 else 0)) ≡ count_by (before t) (front ++ at.tuple ∷ [])) [
            | true ↦ λ peer.
                ap (λ (b : Bool). if b && true then at.before else (if b then at.numbered + 1 else 0)) e
                ∙ (is.before
                ∙ (sym (count_same (before t) (before at.tuple) front (each (λ k. before t k ≡ before at.tuple k) front (peers_before at.tuple t e peer)))
                ∙ sym (counts_more (before t) front at.tuple ∙ none_more (count_by (before t) front) (before t at.tuple) (peers_apart at.tuple t peer))))
            | false ↦ λ unlike.
                ap (λ (b : Bool). if b && false then at.before else (if b then at.numbered + 1 else 0)) e
                ∙ (numbers e
                ∙ sym (count_same (before t) (of_part t) (front ++ at.tuple ∷ [])
                (all_more (λ k. before t k ≡ of_part t k) front at.tuple
                (All-weaker (Early at.tuple) (λ k. before t k ≡ of_part t k) (λ k h. before_all k at.tuple t h late e unlike) front rise)
                (before_last at.tuple t late e unlike))))
          ] refl;
      sum = sum_more t (front ++ at.tuple ∷ []) (if of_part t at.tuple then at.sum else fresh_of a)
          (ap (λ (b : Bool). if b then at.sum else fresh_of a) e
          ∙ (is.sum ∙ ap (λ (rows : List (List Value)). accumulated_over rows a) (sym (same_rows e))));
    }
      where
        none_more : (n : ℕ) (b : Bool) → b ≡ false → n + one_if b ≡ n
        none_more n b h = ap (λ (c : Bool). n + one_if c) h ∙ omega arith

        numbers : of_part t at.tuple ≡ true → at.numbered + 1 ≡ count_by (of_part t) (front ++ at.tuple ∷ [])
        numbers h = sym (counts_more (of_part t) front at.tuple ∙ ap₂ (λ (n : ℕ) (b : Bool). n + one_if b) (count_same (of_part t) (of_part at.tuple) front (each (λ k. of_part t k ≡ of_part at.tuple k) front (parts_alike t at.tuple h)) ∙ sym is.numbered) h)

        same_rows : of_part t at.tuple ≡ true → rows_of_part t (front ++ at.tuple ∷ []) ≡ rows_of_part at.tuple (front ++ at.tuple ∷ [])
        same_rows h = ap (map (λ (k : Placed). k.1)) (filter_alike (of_part t) (of_part at.tuple) (front ++ at.tuple ∷ []) (each (λ k. of_part t k ≡ of_part at.tuple k) (front ++ at.tuple ∷ []) (parts_alike t at.tuple h)))

    none_of : of_part t at.tuple ≡ false → All (λ k. of_part t k ≡ false) (front ++ at.tuple ∷ [])
    none_of e = all_more (λ k. of_part t k ≡ false) front at.tuple (All-weaker (Early at.tuple) (λ k. of_part t k ≡ false) (λ k h. apart_before k at.tuple t h late e) front rise) e

    begun : of_part t at.tuple ≡ false → IsAt (front ++ at.tuple ∷ []) (next_at w a (Some at) t)
    begun e = record {
      numbered = ap (λ (b : Bool). if b then at.numbered + 1 else 0) e ∙ sym (count_none (of_part t) (front ++ at.tuple ∷ []) (none_of e));
      before =
          ap (λ (b : Bool). if b && is_eq (by_window at.tuple t) then at.before else (if b then at.numbered + 1 else 0)) e
          ∙ sym (count_none (before t) (front ++ at.tuple ∷ []) (All-weaker (λ k. of_part t k ≡ false) (λ k. before t k ≡ false) (λ k h. no_frames t k h) (front ++ at.tuple ∷ []) (none_of e)));
      sum = sum_more t (front ++ at.tuple ∷ []) (if of_part t at.tuple then at.sum else fresh_of a)
          (ap (λ (b : Bool). if b then at.sum else fresh_of a) e
          ∙ (fresh_is ∙ ap (λ (ks : List Placed). accumulated_over (map (λ (k : Placed). k.1) ks) a) (sym (filter_none (of_part t) (front ++ at.tuple ∷ []) (none_of e)))));
    }

    pub stepped : IsAt (front ++ at.tuple ∷ []) (next_at w a (Some at) t)
    stepped =
        elim (of_part t at.tuple) as (λ b. of_part t at.tuple ≡ b → IsAt (front ++ at.tuple ∷ []) (next_at w a (Some at) t)) [
          | true ↦ joined
          | false ↦ begun
        ] refl

  last_of : (t : Placed) (ks : List Placed) (k : Placed) → All (Early t) (ks ++ k ∷ []) → Early t k
  last_of t [] k h = All-head (Early t) k [] h
  last_of t (x ∷ ks) k h = last_of t ks k (All-tail (Early t) x (ks ++ k ∷ []) h)

  -- the walk goes on at the next tuple, behind which none of those before it stands
  pub goes_on : (pre : List Placed) (o : Option Seen) (t : Placed) → IsState pre o → All (Early t) pre → IsAt pre (next_at w a o t)
  goes_on pre None t s late = subst (λ (p : List Placed). IsAt p (next_at w a None t)) (sym s) (first_at t)
  goes_on pre (Some at) t (front, e, rise, is) late =
      subst (λ (p : List Placed). IsAt p (next_at w a (Some at) t)) (sym e)
      (stepped front at t rise is (last_of t front at.tuple (subst (All (Early t)) e late)))

  pub stands_on : (pre : List Placed) (o : Option Seen) (t : Placed) → IsState pre o → All (Early t) pre → IsState (pre ++ t ∷ []) (Some (next_at w a o t))
  stands_on pre o t s late = (pre, refl, late, goes_on pre o t s late)
