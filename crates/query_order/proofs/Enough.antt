-- Rows that are enough stay so where more come and where they are cut back, and they print what all rows print.
use Rattle.std.proofs.Common.{◌≡◌, ℕ, ◌+◌, ◌-◌, ◌<◌, ◌≤◌, Bool, true, false, List, [], ◌∷◌, ◌++◌, length, get_or, take, drop, length-drop, All, Option, Some, None, IsPermutation, IsSorted, refl, sym, ap, subst, ◌∙◌, append_assoc, append-nil, arith}
use Rattle.std.proofs.lemmas.List.{length-take, get_or-drop, take-append-drop, take_at, take_all}
use Rattle.std.proofs.lemmas.List.Elements.{All-nil, All-append, All-weaker}
use Rattle.std.proofs.lemmas.List.MinMax.{ranks_by}
use Rattle.std.proofs.lemmas.List.Sorted.{IsPermutation-refl, IsPermutation-trans, IsPermutation-append_left, IsPermutation-append_right, IsPermutation-append_comm, All-permutation, sorted_far}
use Rattle.std.proofs.lemmas.List.Sums.{count_by-le-length}
use Rattle.std.specs.Cmp.{IsStrictWeakOrder, tied_itself}
use Rattle.std.specs.Ordering.{is_lt, is_le, ordering_reverse}
use Rattle.std.specs.declared.cmp.Ordering.{Ordering}
use Rattle.std.specs.declared.cmp.Ordering.TheVariants.{Less, Equal, Greater}
use Rattle.common_laws.proofs.BagLaws.{bag_of_permutation, count_append}
use Rattle.col_value.specs.declared.wide.Wide.{Wide}
use Rattle.sql_bound.specs.Printed.{printed_cmp, IsPrinted}
use Rattle.query_order.proofs.OneList.{printed_total}
use Rattle.query_order.proofs.Ordered.{Rises, rises_take, rises_join, in_order, in_order_same, in_order_rises, PassesFirst, taken_counts, place_counts, all_counted}
use Rattle.query_order.specs.Enough.{count_up_to, AreBehind, IsEnough, IsPrintedOfEnough}

not_after : (a b : Ordering) → a ≡ ordering_reverse b → is_lt b ≡ false → is_le a ≡ true
not_after a Less e h = cc
not_after a Equal e h = ap is_le e
not_after a Greater e h = ap is_le e

not_before : (a b : Ordering) → a ≡ ordering_reverse b → is_le a ≡ true → is_lt b ≡ false
not_before a Less e h = let after : is_le a ≡ false = ap is_le e in cc
not_before a Equal e h = refl
not_before a Greater e h = refl

module _ (order : List (ℕ × Bool)) where
  abbrev before : List Wide → List Wide → Bool
  before a b = is_lt (printed_cmp order a b)

  ranked : IsStrictWeakOrder before
  ranked = ranks_by (printed_total order) (λ (r : List Wide). r)

  rises_from_sorted : (rows : List (List Wide)) → IsSorted (printed_cmp order) rows → Rises before rows
  rises_from_sorted rows up i j d below inside = sorted_far before ranked rows up i j d (omega arith) inside

  sorted_from_rises : (rows : List (List Wide)) → Rises before rows → IsSorted (printed_cmp order) rows
  sorted_from_rises rows up k d low inside = up k (k + 1) d (omega arith) inside

  up_to : (k row : List Wide) → before row k ≡ false → is_le (printed_cmp order k row) ≡ true
  up_to k row h = not_after _ _ ((printed_total order).antisymm k row) h

  not_behind : (k row : List Wide) → is_le (printed_cmp order k row) ≡ true → before row k ≡ false
  not_behind k row h = not_before _ _ ((printed_total order).antisymm k row) h

  beside_itself : (row : List Wide) → is_le (printed_cmp order row row) ≡ true
  beside_itself row = ap is_le (tied_itself (printed_total order) row)

  stays_behind : (b : Bool) (row x y : List Wide) → before y x ≡ false → is_le (printed_cmp order x row) ≡ false → is_le (printed_cmp order y row) ≡ b → b ≡ false
  stays_behind true row x y h e f =
      let passes : is_le (printed_cmp order x row) ≡ true = up_to x row (ranked.chain row y x (not_behind y row f) h) in
      cc
  stays_behind false row x y h e f = refl

  passes_first : (row : List Wide) (rows : List (List Wide)) → Rises before rows → PassesFirst (λ k. is_le (printed_cmp order k row)) rows
  passes_first row rows up i j d below inside e = stays_behind _ row (get_or rows i d) (get_or rows j d) (up i j d below inside) e refl

  -- the rows behind the first n have n before them
  rest_behind : (n : ℕ) (rows : List (List Wide)) → Rises before rows → All (λ row. n ≤ count_up_to order row (take n rows)) (drop n rows)
  rest_behind n rows up k d inside =
      let row : List Wide = get_or (drop n rows) k d in
      let long : length (drop n rows) ≡ length rows - n = length-drop n rows in
      let there : get_or rows (n + k) d ≡ row = sym (get_or-drop n rows k d) in
      let itself : is_le (printed_cmp order (get_or rows (n + k) d) row) ≡ true = subst (λ (r : List Wide). is_le (printed_cmp order (get_or rows (n + k) d) r) ≡ true) there (beside_itself (get_or rows (n + k) d)) in
      let first = passes_first row rows up in
      let many : n + k < count_up_to order row rows = place_counts (λ r. is_le (printed_cmp order r row)) (n + k) rows d first (omega arith) itself in
      taken_counts (λ r. is_le (printed_cmp order r row)) n rows first (omega arith)

  -- where ordered rows are cut, each row that has n of them before it has them in the front
  front_behind : (n : ℕ) (rows others : List (List Wide)) → Rises before rows → AreBehind order (Some n) rows others → AreBehind order (Some n) (take n rows) others
  front_behind n rows others up h = All-weaker (λ row. n ≤ count_up_to order row rows) (λ row. n ≤ count_up_to order row (take n rows))
      (λ row many. taken_counts (λ r. is_le (printed_cmp order r row)) n rows (passes_first row rows up) many) others h

  same_behind : (n : ℕ) (rows same others : List (List Wide)) → IsPermutation rows same → AreBehind order (Some n) rows others → AreBehind order (Some n) same others
  same_behind n rows same others p h = All-weaker (λ row. n ≤ count_up_to order row rows) (λ row. n ≤ count_up_to order row same)
      (λ row many. omega (arith, (bag_of_permutation rows same p).counts (λ r. is_le (printed_cmp order r row)))) others h

  more_behind : (limit : Option ℕ) (kept more others : List (List Wide)) → AreBehind order limit kept others → AreBehind order limit (kept ++ more) others
  more_behind None kept more others h = h
  more_behind (Some n) kept more others h = All-weaker (λ row. n ≤ count_up_to order row kept) (λ row. n ≤ count_up_to order row (kept ++ more))
      (λ row many. omega (arith, count_append (λ r. is_le (printed_cmp order r row)) kept more)) others h

  none_behind : (limit : Option ℕ) (rows : List (List Wide)) → AreBehind order limit rows []
  none_behind None rows = refl
  none_behind (Some n) rows = All-nil (λ row. n ≤ count_up_to order row rows)

  -- rows of which n stand before each of the others, and which are no more than n, stand before these
  all_before : (n : ℕ) (rows others : List (List Wide)) → length rows ≤ n → AreBehind order (Some n) rows others → All (λ x. All (λ y. before y x ≡ false) others) rows
  all_before n rows others few h i d inside j e within =
      let row : List Wide = get_or others j e in
      let many : n ≤ count_up_to order row rows = h j e within in
      not_behind (get_or rows i d) row (all_counted (λ r. is_le (printed_cmp order r row)) rows (omega arith) i d inside)

  -- and where there is one behind them they are n
  enough_before : (n : ℕ) (rows others : List (List Wide)) → AreBehind order (Some n) rows others → 0 < length others → n ≤ length rows
  enough_before n rows others h some =
      let many : n ≤ count_up_to order (get_or others 0 []) rows = h 0 [] some in
      omega (arith, count_by-le-length (λ r. is_le (printed_cmp order r (get_or others 0 []))) rows)

  all_kept : (all kept : List (List Wide)) → IsEnough order None all kept → IsPermutation all kept
  all_kept all kept e = subst (λ (l : List (List Wide)). IsPermutation all l) (append-nil kept) (subst (λ (others : List (List Wide)). IsPermutation all (kept ++ others)) e.behind e.same)

  -- rows are enough of themselves
  pub enough_itself : (limit : Option ℕ) (rows : List (List Wide)) → IsEnough order limit rows rows
  enough_itself limit rows = record {
    others = [];
    same = subst (λ (l : List (List Wide)). IsPermutation rows l) (sym (append-nil rows)) (IsPermutation-refl rows);
    behind = none_behind limit rows;
  }

  -- rows in another order are enough of the same rows
  pub enough_same : (limit : Option ℕ) (all other kept : List (List Wide)) → IsPermutation other all → IsEnough order limit all kept → IsEnough order limit other kept
  enough_same limit all other kept p e = record { others = e.others; same = IsPermutation-trans _ _ _ p e.same; behind = e.behind }

  -- where more rows come to both, they are still enough
  pub enough_more : (limit : Option ℕ) (all kept more : List (List Wide)) → IsEnough order limit all kept → IsEnough order limit (all ++ more) (kept ++ more)
  enough_more limit all kept more e = record {
    others = e.others;
    same = IsPermutation-trans _ _ _ (IsPermutation-append_left more _ _ e.same) (moved kept e.others more);
    behind = more_behind limit kept more e.others e.behind;
  }
    where
      moved : (kept others more : List (List Wide)) → IsPermutation ((kept ++ others) ++ more) ((kept ++ more) ++ others)
      moved kept others more = rw (append_assoc kept others more, append_assoc kept more others) (IsPermutation-append_right kept _ _ (IsPermutation-append_comm others more))

  cut_enough : (n : ℕ) (all kept sorted : List (List Wide)) → IsEnough order (Some n) all kept → IsPermutation kept sorted → IsSorted (printed_cmp order) sorted → IsEnough order (Some n) all (take n sorted)
  cut_enough n all kept sorted e p up =
      let rises = rises_from_sorted sorted up in
      let whole : IsPermutation all (sorted ++ e.others) = IsPermutation-trans _ _ _ e.same (IsPermutation-append_left e.others _ _ p) in
      let split : sorted ++ e.others ≡ take n sorted ++ (drop n sorted ++ e.others) =
      ap (λ (l : List (List Wide)). l ++ e.others) (sym (take-append-drop n sorted)) ∙ append_assoc (take n sorted) (drop n sorted) e.others in
      record {
        others = drop n sorted ++ e.others;
        same = subst (λ (l : List (List Wide)). IsPermutation all l) split whole;
        behind = All-append (λ row. n ≤ count_up_to order row (take n sorted)) (drop n sorted) e.others (rest_behind n sorted rises)
            (front_behind n sorted e.others rises (same_behind n kept sorted e.others p e.behind));
      }

  -- what is printed of them is still enough
  pub enough_front : (limit : Option ℕ) (all kept front : List (List Wide)) → IsEnough order limit all kept → IsPrinted order limit kept front → IsEnough order limit all front
  enough_front None all kept front e p =
      let same : IsPermutation all front = IsPermutation-trans _ _ _ (all_kept all kept e) (subst (λ (l : List (List Wide)). IsPermutation kept l) (sym p.front) p.same) in
      enough_same None front all front same (enough_itself None front)
  enough_front (Some n) all kept front e p = subst (λ (l : List (List Wide)). IsEnough order (Some n) all l) (sym p.front) (cut_enough n all kept p.sorted e p.same p.ascending)

  front_is : (n : ℕ) (xs ys : List (List Wide)) → length xs ≤ n → (0 < length ys → n ≤ length xs) → xs ≡ take n (xs ++ ys)
  front_is n xs [] few full = sym (ap (take n) (append-nil xs) ∙ take_all n xs few)
  front_is n xs (y ∷ ys) few full = let many : n ≤ length xs = full (omega arith) in sym (take_at xs (y ∷ ys) n (omega arith))

  -- what is printed of them is what is printed of all rows
  pub enough_printed : (limit : Option ℕ) → IsPrintedOfEnough order limit
  enough_printed None all kept listed e p = record {
    sorted = p.sorted;
    same = IsPermutation-trans _ _ _ (all_kept all kept e) p.same;
    ascending = p.ascending;
    front = p.front;
  }
  enough_printed (Some n) all kept listed e p =
      let cut = enough_front (Some n) all kept listed e p in
      let rest : List (List Wide) = in_order before cut.others in
      let few : length listed ≤ n = omega (arith, ap length p.front, length-take n p.sorted) in
      let behind : AreBehind order (Some n) listed rest = All-permutation (λ row. n ≤ count_up_to order row listed) cut.others rest (in_order_same before cut.others) cut.behind in
      let front_rises : Rises before listed = subst (λ (l : List (List Wide)). Rises before l) (sym p.front) (rises_take before n p.sorted (rises_from_sorted p.sorted p.ascending)) in
      record {
        sorted = listed ++ rest;
        same = IsPermutation-trans _ _ _ cut.same (IsPermutation-append_right listed _ _ (in_order_same before cut.others));
        ascending = sorted_from_rises (listed ++ rest) (rises_join before listed rest front_rises (in_order_rises before ranked cut.others) (all_before n listed rest few behind));
        front = front_is n listed rest few (enough_before n listed rest behind);
      }
