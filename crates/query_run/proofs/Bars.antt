-- The bar, behind which no output row is printed.
use Rattle.std.proofs.Common.{◌≡◌, ℕ, ◌+◌, ◌-◌, ◌<◌, ◌≤◌, ◌++◌, Bool, true, false, cond, List, [], ◌∷◌, length, get_or, map, Option, Some, None, refl, sym, ap, ap₂, ◌∙◌, arith, subst, inl, inr}
use Rattle.std.specs.Prelude.{◌⊎◌, count_by, IsSomeAnd, nat_lt}
use Rattle.std.specs.List.{All, slice_get}
use Rattle.std.specs.List.Sorted.{IsPermutation}
use Rattle.std.specs.Option.{IfSome}
use Rattle.std.specs.Ordering.{is_lt, is_le, ordering_reverse}
use Rattle.std.specs.Cmp.{IsStrictWeakOrder, tied_itself}
use Rattle.std.specs.declared.cmp.Ordering.{Ordering}
use Rattle.std.specs.declared.cmp.Ordering.TheVariants.{Less, Equal, Greater}
use Rattle.std.proofs.lemmas.Bool.Decides.{nat_tests}
use Rattle.std.proofs.lemmas.List.{append_assoc, append-nil, length-append, length-take, map-append}
use Rattle.std.proofs.lemmas.List.Elements.{All-append, All-cons, All-head, All-nil, All-tail}
use Rattle.std.proofs.lemmas.List.Sums.{sum_by-append, sum_by-cons}
use Rattle.std.proofs.lemmas.List.MinMax.{ranks_by}
use Rattle.std.proofs.lemmas.List.Sorted.{IsPermutation-append_left, sorted_far}
use Rattle.std.proofs.lemmas.Option.{get_or_from_slice_get, slice_get_within}
use Rattle.col_value.specs.declared.value.Value.{Value}
use Rattle.col_value.specs.declared.wide.Wide.{Wide}
use Rattle.sql_bound.specs.declared.query.BoundQuery.{BoundQuery}
use Rattle.sql_bound.specs.Bounds.{column_bound}
use Rattle.sql_bound.specs.Used.{blanked, is_used}
use Rattle.sql_bound.specs.Printed.{printed_cmp, IsPrinted}
use Rattle.sql_bound.specs.Values.{of_row}
use Rattle.query_order.proofs.OneList.{printed_total}
use Rattle.query_order.proofs.Enough.{enough_front, enough_itself, enough_more}
use Rattle.query_order.proofs.Ordered.{Rises, rises_take}
use Rattle.query_order.specs.Enough.{count_up_to, AreFew, IsEnough}
use Rattle.query_run.specs.Outputs.{items_in, HoldsOutput, IsAdded, IsBar, IsPlain, IsWindowed}
use Rattle.query_run.specs.declared.collected.Collected.{Collected}

abbrev Rows : Type 0
Rows = List (List Wide)

abbrev one_if : Bool → ℕ
one_if b = cond b 1 0

-- ---- counts

count_cons : {X : Type 0} (p : X → Bool) (x : X) (xs : List X) → count_by p (x ∷ xs) ≡ cond (p x) 1 0 + count_by p xs
count_cons p x xs = sum_by-cons (λ x. cond (p x) 1 0) x xs

count_append : {X : Type 0} (p : X → Bool) (xs ys : List X) → count_by p (xs ++ ys) ≡ count_by p xs + count_by p ys
count_append p xs ys = sum_by-append (λ x. cond (p x) 1 0) xs ys

all_pass : {X : Type 0} (p : X → Bool) (xs : List X) → All (λ x. p x ≡ true) xs → count_by p xs ≡ length xs
all_pass p [] all = refl
all_pass p (x ∷ xs) all =
    let here : one_if (p x) ≡ 1 = ap one_if (All-head (λ y. p y ≡ true) x xs all) in
    let rest : count_by p xs ≡ length xs = all_pass p xs (All-tail (λ y. p y ≡ true) x xs all) in
    omega (arith, count_cons p x xs, here, rest)

-- what passes one test passes the other, too
more_pass : {X : Type 0} (p r : X → Bool) (xs : List X) → ((x : X) → p x ≡ true → r x ≡ true) → count_by p xs ≤ count_by r xs
more_pass p r [] both = omega arith
more_pass p r (x ∷ xs) both = by (p x) (r x) refl refl (more_pass p r xs both) (both x)
  where
    by : (a b : Bool) → p x ≡ a → r x ≡ b → count_by p xs ≤ count_by r xs → (p x ≡ true → r x ≡ true) → count_by p (x ∷ xs) ≤ count_by r (x ∷ xs)
    by true true pa rb le goes =
        let one : one_if (p x) ≡ 1 = ap one_if pa in
        let other : one_if (r x) ≡ 1 = ap one_if rb in
        omega (arith, count_cons p x xs, count_cons r x xs, one, other, le)
    by true false pa rb le goes = let passes : r x ≡ true = goes pa in absurd (cc)
    by false b pa rb le goes =
        let one : one_if (p x) ≡ 0 = ap one_if pa in
        omega (arith, count_cons p x xs, count_cons r x xs, one, le)

-- ---- the printed order

not_after : (a b : Ordering) → a ≡ ordering_reverse b → is_lt b ≡ false → is_le a ≡ true
not_after a Less e h = cc
not_after a Equal e h = ap is_le e
not_after a Greater e h = ap is_le e

not_before : (a b : Ordering) → a ≡ ordering_reverse b → is_le a ≡ true → is_lt b ≡ false
not_before a Less e h = let after : is_le a ≡ false = ap is_le e in cc
not_before a Equal e h = refl
not_before a Greater e h = refl

less_is_up_to : (a : Ordering) → is_lt a ≡ true → is_le a ≡ true
less_is_up_to Less e = refl
less_is_up_to Equal e = cc
less_is_up_to Greater e = cc

module _ (order : List (ℕ × Bool)) where
  abbrev before : List Wide → List Wide → Bool
  before a b = is_lt (printed_cmp order a b)

  ranked : IsStrictWeakOrder before
  ranked = ranks_by (printed_total order) (λ (r : List Wide). r)

  up_to : (k row : List Wide) → before row k ≡ false → is_le (printed_cmp order k row) ≡ true
  up_to k row h = not_after _ _ ((printed_total order).antisymm k row) h

  not_behind : (k row : List Wide) → is_le (printed_cmp order k row) ≡ true → before row k ≡ false
  not_behind k row h = not_before _ _ ((printed_total order).antisymm k row) h

  -- what stands up to the bar stands up to a row behind it
  chained : (bar row k : List Wide) → is_lt (printed_cmp order bar row) ≡ true → is_le (printed_cmp order k bar) ≡ true → is_le (printed_cmp order k row) ≡ true
  chained bar row k first second = up_to k row (ranked.chain row bar k (not_behind bar row (less_is_up_to (printed_cmp order bar row) first)) (not_behind k bar second))

  -- rows in order stand up to the last
  last_bars : (n : ℕ) (rows : Rows) (bar : List Wide) → Rises before rows → length rows ≡ n → slice_get rows (length rows - 1) ≡ Some bar → n ≤ count_up_to order bar rows
  last_bars n rows bar up long is = omega (arith, long, all_pass (λ k. is_le (printed_cmp order k bar)) rows each)
    where
      inside : length rows - 1 < length rows
      inside = slice_get_within rows (length rows - 1) bar is

      last : (d : List Wide) → get_or rows (length rows - 1) d ≡ bar
      last d = get_or_from_slice_get rows (length rows - 1) bar d is

      by : (i : ℕ) (d : List Wide) → (i < length rows - 1) ⊎ (i ≡ length rows - 1) → before bar (get_or rows i d) ≡ false
      by i d (inl lt) = subst (λ (r : List Wide). before r (get_or rows i d) ≡ false) (last d) (up i (length rows - 1) d lt inside)
      by i d (inr same) =
          subst (λ (r : List Wide). before bar r ≡ false) (sym (ap (λ (j : ℕ). get_or rows j d) same ∙ last d)) (not_behind bar bar (ap is_le (tied_itself (printed_total order) bar)))

      place : (i : ℕ) → i < length rows → (i < length rows - 1) ⊎ (i ≡ length rows - 1)
      place i lt = cases (nat_lt i (length rows - 1)) refl
        where
          cases : (b : Bool) → nat_lt i (length rows - 1) ≡ b → (i < length rows - 1) ⊎ (i ≡ length rows - 1)
          cases true is = let less : i < length rows - 1 = grind (arith, nat_tests) in inl less
          cases false is = let same : i ≡ length rows - 1 = grind (arith, nat_tests) in inr same

      each : All (λ k. is_le (printed_cmp order k bar) ≡ true) rows
      each i d lt = up_to (get_or rows i d) bar (by i d (place i lt))

  printed_bars : (limit : Option ℕ) (n : ℕ) (all rows : Rows) (bar : List Wide) → limit ≡ Some n → length rows ≡ n → slice_get rows (length rows - 1) ≡ Some bar → IsPrinted order limit all rows → IsBar order limit rows bar
  printed_bars limit n all rows bar is long last printed = subst (λ (l : Option ℕ). IsBar order l rows bar) (sym is) (last_bars n rows bar rises long last)
    where
      own : IsPrinted order (Some n) all rows
      own = subst (λ (l : Option ℕ). IsPrinted order l all rows) is printed

      rises : Rises before rows
      rises = subst (Rises before) (sym own.front) (rises_take before n own.sorted (λ i j d below within. sorted_far before ranked own.sorted own.ascending i j d (omega (arith, below)) within))

  pub last_bars_all : (limit : Option ℕ) (n : ℕ) (rows : Rows) (bar : Option (List Wide)) → limit ≡ Some n → length rows ≡ n → IfSome bar (λ row. slice_get rows (length rows - 1) ≡ Some row) → (all : Rows) → IsPrinted order limit all rows
      → IfSome bar (IsBar order limit rows)
  last_bars_all limit n rows None is long last all printed = tt
  last_bars_all limit n rows (Some bar) is long last all printed = printed_bars limit n all rows bar is long last printed

-- ---- output rows

more_barred : (order : List (ℕ × Bool)) (limit : Option ℕ) (rows : Rows) (row : List Wide) (bar : Option (List Wide)) → IfSome bar (IsBar order limit rows) → IfSome bar (IsBar order limit (rows ++ row ∷ []))
more_barred order limit rows row None is = tt
more_barred order None rows row (Some bar) is = is
more_barred order (Some n) rows row (Some bar) is = omega (arith, is, count_append (λ k. is_le (printed_cmp order k bar)) rows (row ∷ []))

-- a row that joins the others
pub row_joins : (q : BoundQuery) (row : List Wide) (old new : Rows) (bar : Option (List Wide)) → new ≡ old ++ row ∷ [] → AreFew q.limit new → IsAdded q row old new bar bar
row_joins q row old new bar is few = record {
  enough = λ all before. subst (IsEnough q.order q.limit (all ++ row ∷ [])) (sym is) (enough_more q.order q.limit all old (row ∷ []) before);
  few = few;
  barred = λ was. subst (λ (rows : Rows). IfSome bar (IsBar q.order q.limit rows)) (sym is) (more_barred q.order q.limit old row bar was);
}

few_printed : (order : List (ℕ × Bool)) (limit : Option ℕ) (all rows : Rows) → IsPrinted order limit all rows → AreFew limit rows
few_printed order None all rows printed = tt
few_printed order (Some n) all rows printed = omega (arith, ap length printed.front, length-take n printed.sorted)

-- they are cut back behind it
pub row_cuts : (q : BoundQuery) (order : List (ℕ × Bool)) (row : List Wide) (old all new given : Rows) (bar next : Option (List Wide)) → order ≡ q.order → all ≡ old ++ row ∷ [] → given ≡ new → IsPrinted order q.limit all new
    → ((rows : Rows) → IsPrinted q.order q.limit rows given → IfSome next (IsBar q.order q.limit given)) → IsAdded q row old new bar next
row_cuts q order row old all new given bar next own is same printed bars =
    let here : IsPrinted q.order q.limit all new = subst (λ (o : List (ℕ × Bool)). IsPrinted o q.limit all new) own printed in
    record {
      enough = λ l before. enough_front q.order q.limit (l ++ row ∷ []) all new (subst (IsEnough q.order q.limit (l ++ row ∷ [])) (sym is) (enough_more q.order q.limit l old (row ∷ []) before)) here;
      few = few_printed q.order q.limit all new here;
      barred = λ was. subst (λ (rows : Rows). IfSome next (IsBar q.order q.limit rows)) same (bars all (subst (IsPrinted q.order q.limit all) (sym same) here));
    }

-- a row behind the bar changes nothing
pub row_barred : (order : List (ℕ × Bool)) (limit : Option ℕ) (all kept : Rows) (bar row : List Wide) → IsBar order limit kept bar → is_lt (printed_cmp order bar row) ≡ true → IsEnough order limit all kept → IsEnough order limit (all ++ row ∷ []) kept
row_barred order None all kept bar row is before enough = absurd is
row_barred order (Some n) all kept bar row is before enough = record {
  others = enough.others ++ row ∷ [];
  same = subst (IsPermutation (all ++ row ∷ [])) (append_assoc kept enough.others (row ∷ [])) (IsPermutation-append_left (row ∷ []) all (kept ++ enough.others) enough.same);
  behind = All-append (λ r. n ≤ count_up_to order r kept) enough.others (row ∷ []) enough.behind
      (All-cons (λ r. n ≤ count_up_to order r kept) row []
      (omega (arith, is, more_pass (λ k. is_le (printed_cmp order k bar)) (λ k. is_le (printed_cmp order k row)) kept (λ k passes. chained order bar row k before passes))) (All-nil (λ r. n ≤ count_up_to order r kept)));
}

-- so that it needn't join them
pub row_behind : (q : BoundQuery) (row : List Wide) (rows : Rows) (bar : Option (List Wide)) → AreFew q.limit rows → IfSome bar (IsBar q.order q.limit rows) → IsSomeAnd bar (λ b. is_lt (printed_cmp q.order b row) ≡ true) → IsAdded q row rows rows bar bar
row_behind q row rows None few is behind = absurd behind
row_behind q row rows (Some b) few is behind = record {
  enough = λ all before. row_barred q.order q.limit all rows b row is behind before;
  few = few;
  barred = λ was. was;
}

-- no row is enough of none
pub none_enough : (q : BoundQuery) → IsEnough q.order q.limit [] []
none_enough q = enough_itself q.order q.limit []

pub none_few : (limit : Option ℕ) → AreFew limit []
none_few None = tt
none_few (Some n) = omega arith

-- ---- what is collected

put_out_more : (q : BoundQuery) (rows : List (List Value)) (tuple : List Value) → map (items_in q) (map of_row rows) ++ items_in q (of_row tuple) ∷ [] ≡ map (items_in q) (map of_row (rows ++ tuple ∷ []))
put_out_more q rows tuple = sym (ap (map (items_in q)) (map-append of_row rows (tuple ∷ [])) ∙ map-append (items_in q) (map of_row rows) (of_row tuple ∷ []))

taken_more : (q : BoundQuery) (rows : List (List Value)) (tuple : List Value) (old new : Collected) → new.taken ≡ old.taken + 1 → HoldsOutput q rows old → new.taken ≡ length (rows ++ tuple ∷ [])
taken_more q rows tuple old new one held = omega (arith, one, held.taken, length-append rows (tuple ∷ []))

plain_only : {P : Type 0} (q : BoundQuery) → q.grouped ≡ false → q.grouped ≡ true → P
plain_only q plain grouped = cc

-- a tuple whose output row stands behind the bar
pub held_barred : (q : BoundQuery) (tuple : List Value) (old new : Collected) → IsPlain q → new.rows.items ≡ old.rows.items → new.bar ≡ old.bar → new.taken ≡ old.taken + 1 → new.taken < column_bound
    → IsSomeAnd old.bar (λ bar. is_lt (printed_cmp q.order bar (items_in q (of_row tuple))) ≡ true) → (rows : List (List Value)) → HoldsOutput q rows old → HoldsOutput q (rows ++ tuple ∷ []) new
held_barred q tuple old new plain same bar_same one few behind rows held = record {
  taken = taken_more q rows tuple old new one held;
  few = few;
  seen = λ is. absurd (is.windows (ap length plain.alone));
  rows = λ is. subst (IsEnough q.order q.limit (map (items_in q) (map of_row (rows ++ tuple ∷ [])))) (sym same)
      (subst (λ (all : Rows). IsEnough q.order q.limit all old.rows.items) (put_out_more q rows tuple) (by old.bar behind held.bar (held.rows is)));
  cut = subst (AreFew q.limit) (sym same) held.cut;
  bar = subst (λ (bar : Option (List Wide)). IfSome bar (IsBar q.order q.limit new.rows.items)) (sym bar_same) (subst (λ (kept : Rows). IfSome old.bar (IsBar q.order q.limit kept)) (sym same) held.bar);
  groups = λ is. plain_only q plain.rows is;
}
  where
    made : Rows
    made = map (items_in q) (map of_row rows)

    by : (bar : Option (List Wide)) → IsSomeAnd bar (λ b. is_lt (printed_cmp q.order b (items_in q (of_row tuple))) ≡ true) → IfSome bar (IsBar q.order q.limit old.rows.items) → IsEnough q.order q.limit made old.rows.items
        → IsEnough q.order q.limit (made ++ items_in q (of_row tuple) ∷ []) old.rows.items
    by None behind is enough = absurd behind
    by (Some b) behind is enough = row_barred q.order q.limit made old.rows.items b (items_in q (of_row tuple)) is behind enough

-- a tuple whose output row is added
pub held_added : (q : BoundQuery) (tuple : List Value) (row : List Wide) (old new : Collected) → IsPlain q → row ≡ items_in q (of_row tuple) → new.taken ≡ old.taken + 1 → new.taken < column_bound
    → IsAdded q row old.rows.items new.rows.items old.bar new.bar → (rows : List (List Value)) → HoldsOutput q rows old → HoldsOutput q (rows ++ tuple ∷ []) new
held_added q tuple row old new plain made one few added rows held = record {
  taken = taken_more q rows tuple old new one held;
  few = few;
  seen = λ is. absurd (is.windows (ap length plain.alone));
  rows = λ is. subst (λ (all : Rows). IsEnough q.order q.limit all new.rows.items) (ap (λ (r : List Wide). map (items_in q) (map of_row rows) ++ r ∷ []) made ∙ put_out_more q rows tuple)
      (added.enough (map (items_in q) (map of_row rows)) (held.rows is));
  cut = added.few;
  bar = added.barred held.bar;
  groups = λ is. plain_only q plain.rows is;
}

-- a tuple that windows see
pub held_seen : (q : BoundQuery) (tuple : List Value) (row : List Value) (old new : Collected) → IsWindowed q → row ≡ blanked (is_used q) 0 tuple → new.seen.items ≡ old.seen.items ++ row ∷ [] → new.rows ≡ old.rows → new.bar ≡ old.bar → new.taken ≡ old.taken + 1
    → new.taken < column_bound → (rows : List (List Value)) → HoldsOutput q rows old → HoldsOutput q (rows ++ tuple ∷ []) new
held_seen q tuple row old new windowed made more same bar_same one few rows held = record {
  taken = taken_more q rows tuple old new one held;
  few = few;
  seen = λ is.
      more ∙ ap₂ (λ (front : List (List Value)) (last : List Value). front ++ last ∷ []) (held.seen is) made ∙ sym (map-append (blanked (is_used q) 0) rows (tuple ∷ []));
  rows = λ is. absurd (windowed.windows (ap length is.alone));
  cut = subst (λ kept. AreFew q.limit kept.items) (sym same) held.cut;
  bar = ap₂-bar (sym bar_same) (sym same) held.bar;
  groups = λ is. plain_only q windowed.rows is;
}
  where
    ap₂-bar : old.bar ≡ new.bar → old.rows ≡ new.rows → IfSome old.bar (IsBar q.order q.limit old.rows.items) → IfSome new.bar (IsBar q.order q.limit new.rows.items)
    ap₂-bar e f h = subst (λ (bar : Option (List Wide)). IfSome bar (IsBar q.order q.limit new.rows.items)) e (subst (λ kept. IfSome old.bar (IsBar q.order q.limit kept.items)) f h)

-- tuples whose output rows stand behind the bar
passed_enough : (q : BoundQuery) (bar : Option (List Wide)) (kept : Rows) (more rows : List (List Value)) → IfSome bar (IsBar q.order q.limit kept) → All (λ t. IsSomeAnd bar (λ b. is_lt (printed_cmp q.order b (items_in q (of_row t))) ≡ true)) more
    → IsEnough q.order q.limit (map (items_in q) (map of_row rows)) kept → IsEnough q.order q.limit (map (items_in q) (map of_row (rows ++ more))) kept
passed_enough q bar kept [] rows is behind enough = subst (λ (all : List (List Value)). IsEnough q.order q.limit (map (items_in q) (map of_row all)) kept) (sym (append-nil rows)) enough
passed_enough q bar kept (t ∷ more) rows is behind enough =
    subst (λ (all : List (List Value)). IsEnough q.order q.limit (map (items_in q) (map of_row all)) kept) (append_assoc rows (t ∷ []) more)
    (passed_enough q bar kept more (rows ++ t ∷ []) is (All-tail (λ u. IsSomeAnd bar (λ b. is_lt (printed_cmp q.order b (items_in q (of_row u))) ≡ true)) t more behind)
    (subst (λ (all : Rows). IsEnough q.order q.limit all kept) (put_out_more q rows t)
    (by bar (All-head (λ u. IsSomeAnd bar (λ b. is_lt (printed_cmp q.order b (items_in q (of_row u))) ≡ true)) t more behind) is)))
  where
    by : (bar : Option (List Wide)) → IsSomeAnd bar (λ b. is_lt (printed_cmp q.order b (items_in q (of_row t))) ≡ true) → IfSome bar (IsBar q.order q.limit kept) → IsEnough q.order q.limit (map (items_in q) (map of_row rows) ++ items_in q (of_row t) ∷ []) kept
    by None out bars = absurd out
    by (Some b) out bars = row_barred q.order q.limit (map (items_in q) (map of_row rows)) kept b (items_in q (of_row t)) bars out enough

pub held_passed : (q : BoundQuery) (more : List (List Value)) (old new : Collected) → IsPlain q → new.rows.items ≡ old.rows.items → new.bar ≡ old.bar → new.taken ≡ old.taken + length more → new.taken < column_bound
    → All (λ t. IsSomeAnd old.bar (λ b. is_lt (printed_cmp q.order b (items_in q (of_row t))) ≡ true)) more → (rows : List (List Value)) → HoldsOutput q rows old → HoldsOutput q (rows ++ more) new
held_passed q more old new plain same bar_same sum few behind rows held = record {
  taken = omega (arith, sum, held.taken, length-append rows more);
  few = few;
  seen = λ is. absurd (is.windows (ap length plain.alone));
  rows = λ is. subst (IsEnough q.order q.limit (map (items_in q) (map of_row (rows ++ more)))) (sym same) (passed_enough q old.bar old.rows.items more rows held.bar behind (held.rows is));
  cut = subst (AreFew q.limit) (sym same) held.cut;
  bar = subst (λ (bar : Option (List Wide)). IfSome bar (IsBar q.order q.limit new.rows.items)) (sym bar_same) (subst (λ (kept : Rows). IfSome old.bar (IsBar q.order q.limit kept)) (sym same) held.bar);
  groups = λ is. plain_only q plain.rows is;
}
