-- The values that are written where their tuples stand, and the sums of partitions, over tuples in another order than that of the list.
use Rattle.std.proofs.Common.{◌≡◌, ◌++◌, ℕ, zero, suc, ◌+◌, ◌<◌, ◌≤◌, ◌||◌, Bool, true, false, cond, List, [], ◌∷◌, length, map, filter, get_or, set, Option, Some, None, refl, sym, ap, ap₂, ◌∙◌, arith, subst, inl, inr}
use Rattle.std.specs.Prelude.{◌==◌, not}
use Rattle.std.specs.Ordering.{is_lt}
use Rattle.std.specs.List.{All, Contains, count_by, enumerate_from, list_any}
use Rattle.std.proofs.lemmas.Bool.Decides.{nat_tests}
use Rattle.std.proofs.lemmas.List.{append_assoc, ext_get_or, get_or-set_other, get_or-set_same, length-append, length-map, length-set, map-append}
use Rattle.std.proofs.lemmas.List.Elements.{All-nil, Contains-append_right, Contains-get_or, filter-append}
use Rattle.std.proofs.lemmas.List.Sums.{sum_by-append}
use Rattle.col_value.specs.declared.value.Value.{Value}
use Rattle.col_value.specs.declared.wide.Wide.{Wide}
use Rattle.col_value.specs.declared.wide.Wide.TheVariants as wide
use Rattle.sql_bound.specs.declared.expr.Expr.{Expr}
use Rattle.sql_bound.specs.declared.query.Aggregate.{Aggregate}
use Rattle.sql_bound.specs.declared.query.BoundWindow.{BoundWindow}
use Rattle.sql_bound.specs.Bounds.{magnitude, result_bound}
use Rattle.sql_bound.specs.Values as scopes
use Rattle.sql_bound.specs.Values.{is_null, value_of}
use Rattle.sql_bound.specs.Outputs.{aggregate_over, in_frame, in_partition, is_numbered_before, number_or_zero, same_keys, size_of, stands_before, values_over, window_over, window_value, IsGreatSum}
use Rattle.exec_group.proofs.More.{great_over, is_great}
use Rattle.query_laws.proofs.Alike.{Alike, Place, alike_filter, alike_map, any_alike, place}
use Rattle.query_laws.proofs.Great.{same_size, size_sum}
use Rattle.query_laws.proofs.Numbered.{counts_cons}
use Rattle.query_laws.proofs.Once.{same_equal, same_itself}
use Rattle.query_laws.proofs.Sames.{same_aggregate, values_alike}
use Rattle.exec_window.specs.declared.walk.Step.{Step}
use Rattle.exec_window.specs.Partitions.{HasGreatPartition}
use Rattle.exec_window.specs.Walks.{AllFit, Seen, SomeGreat, frame_of, next_at, shared, value_of_step, walk_cmp, written}
use Rattle.exec_window.proofs.Orders.{Rises}
use Rattle.exec_window.proofs.Walking.{Early, IsState, Placed, before, each, filter_alike, goes_on, of_part, parts_alike, rows_of_part, stands_on}
use Rattle.exec_window.proofs.Whole.{Ahead, Fill, ahead_more, first_early, once_from, value_in}

abbrev one_if : Bool → ℕ
one_if b = cond b 1 0

abbrev row_of : Placed → List Value
row_of k = k.1

rows_again : (n : ℕ) (rows : List (List Value)) → map row_of (enumerate_from n rows) ≡ rows
rows_again n [] = refl
rows_again n (row ∷ rows) = ap (λ (rest : List (List Value)). row ∷ rest) (rows_again (n + 1) rows)

filter_rows : (q : List Value → Bool) (ks : List Placed) → map row_of (filter (λ k. q k.1) ks) ≡ filter q (map row_of ks)
filter_rows q [] = refl
filter_rows q (k ∷ ks) =
    elim (q k.1) as (λ b. map row_of (cond b (k ∷ filter (λ z. q z.1) ks) (filter (λ z. q z.1) ks)) ≡ cond b (k.1 ∷ filter q (map row_of ks)) (filter q (map row_of ks))) [
      | true ↦ ap (λ (rest : List (List Value)). k.1 ∷ rest) (filter_rows q ks)
      | false ↦ filter_rows q ks
    ]

count_rows : (q : List Value → Bool) (ks : List Placed) → count_by (λ k. q k.1) ks ≡ count_by q (map row_of ks)
count_rows q [] = refl
count_rows q (k ∷ ks) = omega (arith, counts_cons (λ (z : Placed). q z.1) k ks, counts_cons q k.1 (map row_of ks), count_rows q ks)

length_enumerated : (n : ℕ) (rows : List (List Value)) → length (enumerate_from n rows) ≡ length rows
length_enumerated n [] = refl
length_enumerated n (row ∷ rows) = ap suc (length_enumerated (n + 1) rows)

-- which tuple stands at a place
placed_at : (n i : ℕ) (rows : List (List Value)) (d : Placed) → i < length rows → get_or (enumerate_from n rows) i d ≡ (n + i, get_or rows i [])
placed_at n i [] d h = absurd (omega arith)
placed_at n zero (row ∷ rows) d h = let same : n ≡ n + 0 = omega arith in ap (λ (m : ℕ). (m, row)) same
placed_at n (suc i) (row ∷ rows) d h = let same : (n + 1) + i ≡ n + suc i = omega arith in placed_at (n + 1) i rows d (omega arith) ∙ ap (λ (m : ℕ). (m, get_or rows i [])) same

covered_from : (i n : ℕ) (rows : List (List Value)) → n ≤ i → i < n + length rows → list_any (λ (k : Placed). k.0 == i) (enumerate_from n rows) ≡ true
covered_from i n [] h g = absurd (omega arith)
covered_from i n (row ∷ rows) h g =
    elim (n == i) as (λ b. (n == i) ≡ b → (b || list_any (λ (k : Placed). k.0 == i) (enumerate_from (n + 1) rows)) ≡ true) [
      | true ↦ λ e. refl
      | false ↦ λ e. let other : n + 1 ≤ i = grind (arith, nat_tests) in covered_from i (n + 1) rows other (omega arith)
    ] refl

-- each tuple has the row of its place
IsOwn : List (List Value) → Placed → Type 0
IsOwn rows k = k.1 ≡ get_or rows k.0 []

is_own : List (List Value) → Placed → Bool
is_own rows k = same_keys k.1 (get_or rows k.0 [])

owns_from : (pre rest : List (List Value)) → list_any (λ k. cond (is_own (pre ++ rest) k) false true) (enumerate_from (length pre) rest) ≡ false
unfolding is_own
owns_from pre [] = refl
owns_from pre (row ∷ rest) =
    let joined : (pre ++ row ∷ []) ++ rest ≡ pre ++ row ∷ rest = append_assoc pre (row ∷ []) rest in
    let long : length (pre ++ row ∷ []) ≡ length pre + 1 = omega (arith, length-append pre (row ∷ [])) in
    let here : is_own (pre ++ row ∷ rest) (length pre, row) ≡ true = ap (same_keys row) (at_end pre row rest) ∙ same_itself row in
    let later : list_any (λ k. cond (is_own (pre ++ row ∷ rest) k) false true) (enumerate_from (length pre + 1) rest) ≡ false =
    ap (λ (n : ℕ). list_any (λ k. cond (is_own (pre ++ row ∷ rest) k) false true) (enumerate_from n rest)) (sym long)
    ∙ subst (λ (all : List (List Value)). list_any (λ k. cond (is_own all k) false true) (enumerate_from (length (pre ++ row ∷ [])) rest) ≡ false) joined (owns_from (pre ++ row ∷ []) rest) in
    ap₂ (λ (b c : Bool). cond b false true || c) here later
  where
    at_end : (xs : List (List Value)) (x : List Value) (ys : List (List Value)) → get_or (xs ++ x ∷ ys) (length xs) [] ≡ x
    at_end [] x ys = refl
    at_end (y ∷ xs) x ys = at_end xs x ys

module _ (w : BoundWindow) (a : Aggregate) (rows : List (List Value)) (s : List Placed) (same : Alike s (enumerate_from 0 rows)) where
  pub places_apart : (t : Placed) → count_by (λ k. k.0 == t.0) s ≤ 1
  places_apart t = let e = same.sums (λ (k : Placed). one_if (k.0 == t.0)) in let once = once_from t.0 0 rows in omega arith

  rows_alike : Alike (map row_of s) rows
  rows_alike = subst (Alike (map row_of s)) (rows_again 0 rows) (alike_map row_of s (enumerate_from 0 rows) same)

  part_rows : (q : List Value → Bool) → Alike (map row_of (filter (λ k. q k.1) s)) (filter q rows)
  part_rows q = subst (λ (xs : List (List Value)). Alike xs (filter q rows)) (sym (filter_rows q s)) (alike_filter q (map row_of s) rows rows_alike)

  value_is : (t : Placed) → value_in w a s places_apart t ≡ window_value rows t (w, a)
  value_is t =
      let numbers : count_by (is_numbered_before w t) s ≡ count_by (is_numbered_before w t) (enumerate_from 0 rows) = same.sums (λ k. one_if (is_numbered_before w t k)) in
      let befores : count_by (before w a t) s ≡ count_by (stands_before w t.1) rows = count_rows (stands_before w t.1) s ∙ rows_alike.sums (λ row. one_if (stands_before w t.1 row)) in
      let frames = same_aggregate (map row_of (filter (λ k. in_frame w t.1 k.1) s)) (filter (in_frame w t.1) rows) (part_rows (in_frame w t.1)) a in
      ap₂ (λ (n m : ℕ). window_over w.kind n m (aggregate_over (map row_of (filter (λ k. in_frame w t.1 k.1) s)) a)) numbers befores
      ∙ ap (window_over w.kind (count_by (is_numbered_before w t) (enumerate_from 0 rows)) (count_by (stands_before w t.1) rows)) frames

  value_at_place : ℕ → Wide
  value_at_place i = window_value rows (i, get_or rows i []) (w, a)

  -- ---- writing

  written_length : (xs : List Step) (out : List Wide) → length (written w.kind xs out) ≡ length out
  written_length [] out = refl
  written_length (x ∷ xs) out = length-set (written w.kind xs out) x.place (value_of_step w.kind x (frame_of x (shared xs))) ∙ written_length xs out

  own_here : (k : Placed) (js : List Placed) → list_any (λ j. cond (is_own rows j) false true) (k ∷ js) ≡ false → IsOwn rows k
  unfolding IsOwn is_own
  own_here k js h = by (same_keys k.1 (get_or rows k.0 [])) refl
    where
      by : (b : Bool) → same_keys k.1 (get_or rows k.0 []) ≡ b → k.1 ≡ get_or rows k.0 []
      by true e = same_equal k.1 (get_or rows k.0 []) e
      by false e = absurd (clash (sym (ap (λ (b : Bool). cond b false true || list_any (λ j. cond (same_keys j.1 (get_or rows j.0 [])) false true) js) e) ∙ h))
        where
          clash : true ≡ false → ⊥
          clash c = cc

  own_later : (k : Placed) (js : List Placed) → list_any (λ j. cond (is_own rows j) false true) (k ∷ js) ≡ false → list_any (λ j. cond (is_own rows j) false true) js ≡ false
  own_later k js h = by (is_own rows k) (list_any (λ j. cond (is_own rows j) false true) js) h
    where
      by : (b c : Bool) → (cond b false true || c) ≡ false → c ≡ false
      by true c e = e
      by false c e = cc

  written_at : (i : ℕ) (js : List Placed) (xs : List Step) (out : List Wide) → i < length out → Fill w a s places_apart js xs → list_any (λ j. cond (is_own rows j) false true) js ≡ false
      → list_any (λ (k : Placed). k.0 == i) js ≡ true → get_or (written w.kind xs out) i wide.Null ≡ value_at_place i
  unfolding IsOwn value_at_place
  written_at i [] xs out h fill own there = cc
  written_at i (t ∷ js) [] out h fill own there = absurd fill
  written_at i (t ∷ js) (x ∷ xs) out h (place, value, rest) own there =
      let below = written w.kind xs out in
      let v = value_of_step w.kind x (frame_of x (shared xs)) in
      elim (t.0 == i) as (λ b. (t.0 == i) ≡ b → get_or (set below x.place v) i wide.Null ≡ window_value rows (i, get_or rows i []) (w, a)) [
        | true ↦ λ e.
            let here : t.0 ≡ i = grind (arith, nat_tests) in
            let long : i < length below = subst (λ (n : ℕ). i < n) (sym (written_length xs out)) h in
            let row : t.1 ≡ get_or rows t.0 [] = own_here t js own in
            ap (λ (p : ℕ). get_or (set below p v) i wide.Null) (place ∙ here)
            ∙ get_or-set_same below i v wide.Null long
            ∙ value ∙ value_is t
            ∙ ap (λ (r : List Value). window_value rows (t.0, r) (w, a)) row
            ∙ ap (λ (p : ℕ). window_value rows (p, get_or rows p []) (w, a)) here
        | false ↦ λ e.
            let other : i ≡ x.place → ⊥ = λ same. let there_too : (t.0 == i) ≡ true = tied (sym place ∙ sym same) in clash (sym there_too ∙ e) in
            get_or-set_other below x.place i v wide.Null other
            ∙ written_at i js xs out h rest (own_later t js own) (sym (ap (λ (b : Bool). b || list_any (λ (k : Placed). k.0 == i) js) e) ∙ there)
      ] refl
    where
      clash : true ≡ false → ⊥
      clash c = cc

      tied : {m n : ℕ} → m ≡ n → (m == n) ≡ true
      tied {m} {n} e = grind (arith, nat_tests)

  pub all_written : (xs : List Step) → Fill w a s places_apart s xs → written w.kind xs (map (λ r. wide.Null) rows) ≡ map (λ t. window_value rows t (w, a)) (enumerate_from 0 rows)
  unfolding value_at_place
  all_written xs fill =
      let out = map (λ (r : List Value). wide.Null) rows in
      let long : length out ≡ length rows = length-map rows (λ (r : List Value). wide.Null) in
      let own : list_any (λ j. cond (is_own rows j) false true) s ≡ false = any_alike (λ j. cond (is_own rows j) false true) s (enumerate_from 0 rows) same ∙ owns_from [] rows in
      ext_get_or wide.Null (written w.kind xs out) (map (λ t. window_value rows t (w, a)) (enumerate_from 0 rows))
      (written_length xs out ∙ (long ∙ sym (length-map (enumerate_from 0 rows) (λ (t : Placed). window_value rows t (w, a)) ∙ length_enumerated 0 rows)))
      (λ i h.
      let none : 0 + i ≡ i = omega arith in
      let inside : i < length rows = subst (λ (n : ℕ). i < n) (written_length xs out ∙ long) h in
      let there : list_any (λ (k : Placed). k.0 == i) s ≡ true = any_alike (λ (k : Placed). k.0 == i) s (enumerate_from 0 rows) same ∙ covered_from i 0 rows (omega arith) (omega arith) in
      written_at i s xs out (subst (λ (n : ℕ). i < n) (sym long) inside) fill own there
      ∙ sym (mapped_at i (enumerate_from 0 rows) (subst (λ (n : ℕ). i < n) (sym (length_enumerated 0 rows)) inside)
      ∙ ap (λ (t : Placed). window_value rows t (w, a)) (placed_at 0 i rows (0, []) inside ∙ ap (λ (p : ℕ). (p, get_or rows i [])) none)))
    where
      mapped_at : (i : ℕ) (ks : List Placed) → i < length ks → get_or (map (λ t. window_value rows t (w, a)) ks) i wide.Null ≡ window_value rows (get_or ks i (0, [])) (w, a)
      mapped_at i [] h = absurd (omega arith)
      mapped_at zero (k ∷ ks) h = refl
      mapped_at (suc i) (k ∷ ks) h = mapped_at i ks (omega arith)

  -- ---- sums that are too great

  abbrev of_row : List Value → List Placed → List (List Value)
  of_row row ks = map row_of (filter (λ k. in_partition w row k.1) ks)

  great_moves : (xs ys : List (List Value)) → Alike xs ys → IsGreatSum xs a → IsGreatSum ys a
  great_moves xs ys e great = (great.0, subst (λ (n : ℕ). result_bound < n) (same_size (values_over a.arg xs) (values_over a.arg ys) (values_alike a.arg xs ys e)) great.1)

  -- the partition of a row, in what a walk has behind it
  none_great : (row : List Value) (pre : List Placed) (o : Option Seen) (js : List Placed) → IsState w a pre o → Ahead w a s places_apart pre js → AllFit w a o js → (IsGreatSum (of_row row pre) a → ⊥) → IsGreatSum (of_row row (pre ++ js)) a → ⊥
  none_great row pre o [] st h fit fine great = fine (subst (λ (ks : List Placed). IsGreatSum (of_row row ks) a) (append_none pre) great)
    where
      append_none : (ks : List Placed) → ks ++ [] ≡ ks
      append_none [] = refl
      append_none (k ∷ ks) = ap (λ (rest : List Placed). k ∷ rest) (append_none ks)
  none_great row pre o (t ∷ js) st h fit fine great =
      let early = first_early w a s places_apart pre t js h in
      none_great row (pre ++ t ∷ []) (Some (next_at w a o t)) js (stands_on w a pre o t st early) (ahead_more w a s places_apart pre t js h) fit.1
      (λ here. by (in_partition w row t.1) refl here)
      (subst (λ (ks : List Placed). IsGreatSum (of_row row ks) a) (sym (append_assoc pre (t ∷ []) js)) great)
    where
      early : All (Early w a t) pre
      early = first_early w a s places_apart pre t js h

      by : (b : Bool) → in_partition w row t.1 ≡ b → IsGreatSum (of_row row (pre ++ t ∷ [])) a → ⊥
      by true e here =
          let alike : of_row row (pre ++ t ∷ []) ≡ rows_of_part w a t (pre ++ t ∷ []) =
          ap (map row_of) (filter_alike (λ k. in_partition w row k.1) (of_part w a t) (pre ++ t ∷ []) (each (λ k. in_partition w row k.1 ≡ of_part w a t k) (pre ++ t ∷ []) (parts_alike w a (0, row) t e))) in
          fit.0 ((goes_on w a pre o t st early).sum ∙ is_great (rows_of_part w a t (pre ++ t ∷ [])) a (subst (λ (xs : List (List Value)). IsGreatSum xs a) alike here))
      by false e here =
          let less : filter (λ k. in_partition w row k.1) (pre ++ t ∷ []) ≡ filter (λ k. in_partition w row k.1) pre =
          filter-append (λ k. in_partition w row k.1) pre (t ∷ []) ∙ ap (λ (b : Bool). filter (λ k. in_partition w row k.1) pre ++ cond b (t ∷ []) []) e ∙ plus_none (filter (λ k. in_partition w row k.1) pre) in
          fine (subst (λ (ks : List Placed). IsGreatSum (map row_of ks) a) less here)
        where
          plus_none : (ks : List Placed) → ks ++ [] ≡ ks
          plus_none [] = refl
          plus_none (k ∷ ks) = ap (λ (rest : List Placed). k ∷ rest) (plus_none ks)

  no_values_great : (row : List Value) → IsGreatSum (of_row row []) a → ⊥
  no_values_great row great = by a.arg great.1
    where
      by : (o : Option Expr) → result_bound < size_of (values_over o []) → ⊥
      by None h = absurd (omega arith)
      by (Some e) h = absurd (omega arith)

  start_ahead : Rises (λ y x. is_lt (walk_cmp w y x)) s → Ahead w a s places_apart [] s
  start_ahead up = record { rises = up; behind = each (λ t. All (Early w a t) []) s (λ t. All-nil (Early w a t)) }

  pub none_too_great : Rises (λ y x. is_lt (walk_cmp w y x)) s → AllFit w a None s → HasGreatPartition w a rows → ⊥
  none_too_great up fit (row, there, great) =
      none_great row [] None s refl (start_ahead up) fit (no_values_great row)
      (great_moves (filter (in_partition w row) rows) (of_row row s) (turned (part_rows (in_partition w row))) great)
    where
      turned : {X : Type 0} {xs ys : List X} → Alike xs ys → Alike ys xs
      turned e = record { sums = λ f. sym (e.sums f) }

  some_great : (pre : List Placed) (o : Option Seen) (js : List Placed) → s ≡ pre ++ js → IsState w a pre o → Ahead w a s places_apart pre js → SomeGreat w a o js → HasGreatPartition w a rows
  some_great pre o [] e st h great = absurd great
  some_great pre o (t ∷ js) e st h (inl great) =
      let early = first_early w a s places_apart pre t js h in
      let sum = great_over (rows_of_part w a t (pre ++ t ∷ [])) a (sym (goes_on w a pre o t st early).sum ∙ great) in
      let front = of_row t.1 (pre ++ t ∷ []) in
      let back = of_row t.1 js in
      let whole : of_row t.1 s ≡ front ++ back =
      ap (of_row t.1) (e ∙ sym (append_assoc pre (t ∷ []) js)) ∙ ap (map row_of) (filter-append (λ k. in_partition w t.1 k.1) (pre ++ t ∷ []) js)
      ∙ map-append row_of (filter (λ k. in_partition w t.1 k.1) (pre ++ t ∷ [])) (filter (λ k. in_partition w t.1 k.1) js) in
      (t.1, contained t pre js e, great_moves (of_row t.1 s) (filter (in_partition w t.1) rows) (part_rows (in_partition w t.1)) (subst (λ (xs : List (List Value)). IsGreatSum xs a) (sym whole) (sum.0, grown a.arg front back sum.1)))
    where
      values_both : (o : Option Expr) (xs ys : List (List Value)) → values_over o (xs ++ ys) ≡ values_over o xs ++ values_over o ys
      values_both None xs ys = refl
      values_both (Some e) xs ys =
          let f : List Value → Wide = λ row. value_of (scopes.of_row row) e in
          ap (filter (λ w. not (is_null w))) (map-append f xs ys) ∙ filter-append (λ w. not (is_null w)) (map f xs) (map f ys)

      grown : (o : Option Expr) (xs ys : List (List Value)) → result_bound < size_of (values_over o xs) → result_bound < size_of (values_over o (xs ++ ys))
      grown o xs ys k =
          let joined = ap size_of (values_both o xs ys) in
          let first = size_sum 0 (values_over o xs) in
          let all = size_sum 0 (values_over o xs ++ values_over o ys) in
          let parts = sum_by-append (λ (w : Wide). magnitude (number_or_zero w)) (values_over o xs) (values_over o ys) in
          omega arith

      contained : (t : Placed) (pre js : List Placed) → s ≡ pre ++ t ∷ js → Contains rows t.1
      contained t pre js e =
          let any : list_any (same_keys t.1) (map row_of s) ≡ true = ap (λ (ks : List Placed). list_any (same_keys t.1) (map row_of ks)) e ∙ among pre t js in
          found (place same_keys same_equal same_itself t.1 rows (sym (any_alike (same_keys t.1) (map row_of s) rows rows_alike) ∙ any))
        where
          among : (pre : List Placed) (t : Placed) (js : List Placed) → list_any (same_keys t.1) (map row_of (pre ++ t ∷ js)) ≡ true
          among [] t js = ap (λ (b : Bool). b || list_any (same_keys t.1) (map row_of js)) (same_itself t.1)
          among (p ∷ pre) t js = last (same_keys t.1 p.1) (among pre t js)
            where
              last : (b : Bool) {c : Bool} → c ≡ true → (b || c) ≡ true
              last true h = refl
              last false h = h

          found : Place t.1 rows → Contains rows t.1
          found (us, vs, is) = subst (λ (xs : List (List Value)). Contains xs t.1) (sym is) (Contains-append_right us (t.1 ∷ vs) t.1 (Contains-get_or (t.1 ∷ vs) 0 t.1 (omega arith)))
  some_great pre o (t ∷ js) e st h (inr later) =
      let early = first_early w a s places_apart pre t js h in
      some_great (pre ++ t ∷ []) (Some (next_at w a o t)) js (e ∙ sym (append_assoc pre (t ∷ []) js)) (stands_on w a pre o t st early) (ahead_more w a s places_apart pre t js h) later

  pub some_too_great : Rises (λ y x. is_lt (walk_cmp w y x)) s → SomeGreat w a None s → HasGreatPartition w a rows
  some_too_great up great = some_great [] None s refl refl (start_ahead up) great
