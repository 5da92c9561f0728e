-- The values of windows beside a row, and the items' bounds beside them.
use Rattle.std.proofs.Common.{◌≡◌, ◌++◌, ℕ, zero, suc, ◌+◌, ◌<◌, ◌≤◌, Bool, true, false, cond, List, [], ◌∷◌, length, map, filter, get_or, Option, Some, None, refl, sym, ap, ap₂, ◌∙◌, arith, subst}
use Rattle.std.specs.Prelude.{◌&&◌, not, zip}
use Rattle.std.specs.List.{All, Contains, count_by, enumerate_from, sum_by}
use Rattle.std.proofs.lemmas.List.{append_assoc}
use Rattle.std.proofs.lemmas.List.Elements.{All-cons, All-filter, All-head, All-nil, All-tail, All-weaker, Contains-append_right, Contains-get_or}
use Rattle.std.proofs.lemmas.List.Sums.{count_by-le-length, sum_by-cons}
use Rattle.col_value.specs.Order.{IsRow}
use Rattle.col_value.specs.declared.value.Value.{Value}
use Rattle.col_value.specs.declared.wide.Wide.{Wide}
use Rattle.col_value.specs.declared.wide.Wide.TheVariants as wide
use Rattle.sql_tree.specs.declared.query.WindowKind.{WindowKind}
use Rattle.sql_bound.specs.declared.expr.Expr.{Expr}
use Rattle.sql_bound.specs.declared.query.Aggregate.{Aggregate}
use Rattle.sql_bound.specs.declared.query.BoundQuery.{BoundQuery}
use Rattle.sql_bound.specs.declared.query.BoundWindow.{BoundWindow}
use Rattle.sql_bound.specs.Bounds.{bound_of_aggregate, bound_of_value, column_bound, is_narrow, magnitude, result_bound}
use Rattle.sql_bound.specs.Outputs.{aggregate_over, in_frame, in_partition, is_numbered_before, number_or_zero, size_of, stands_before, values_over, window_over, window_scope, window_scopes, window_value, IsGreatSum}
use Rattle.sql_bound.specs.Values.{Scope, is_null, of_row, value_of}
use Rattle.exec_window.specs.Partitions.{HasGreatPartition}
use Rattle.query_laws.proofs.AtMost.{aggregate_at_most}
use Rattle.query_laws.proofs.Great.{size_sum}
use Rattle.query_laws.proofs.NarrowLess.{less}
use Rattle.query_laws.specs.Bounded.{bound_beside, window_bound}
use Rattle.query_run.specs.Outputs.{items_in}
use Rattle.query_run.specs.Windows.{AreBeside, AreColumns, HasGreatWindow, column_of}

-- what a row adds to the magnitudes of an argument's values
adds : Expr → List Value → ℕ
adds e row = cond (is_null (value_of (of_row row) e)) 0 (magnitude (number_or_zero (value_of (of_row row) e)))

sizes : (e : Expr) (rows : List (List Value)) → sum_by (λ w. magnitude (number_or_zero w)) (values_over (Some e) rows) ≡ sum_by (adds e) rows
unfolding adds
sizes e [] = refl
sizes e (row ∷ rows) =
    let v = value_of (of_row row) e in
    let f = λ (w : Wide). magnitude (number_or_zero w) in
    let rest = values_over (Some e) rows in
    elim (is_null v) as (λ b. sum_by f (cond (not b) (v ∷ rest) rest) ≡ cond b 0 (f v) + sum_by (λ r. cond (is_null (value_of (of_row r) e)) 0 (magnitude (number_or_zero (value_of (of_row r) e)))) rows) [
      | true ↦ omega (arith, sizes e rows)
      | false ↦ omega (arith, sum_by-cons f v rest, sizes e rows)
    ] ∙ sym (sum_by-cons (λ r. cond (is_null (value_of (of_row r) e)) 0 (magnitude (number_or_zero (value_of (of_row r) e)))) row rows)

-- a part of some rows adds no more
less_kept : {X : Type 0} (f : X → ℕ) (p q : X → Bool) → ((x : X) → p x ≡ true → q x ≡ true) → (xs : List X) → sum_by f (filter p xs) ≤ sum_by f (filter q xs)
less_kept f p q h [] = omega arith
less_kept {X} f p q h (x ∷ xs) = by (p x) (q x) refl refl (less_kept f p q h xs)
  where
    by : (b c : Bool) → p x ≡ b → q x ≡ c → sum_by f (filter p xs) ≤ sum_by f (filter q xs) → sum_by f (cond b (x ∷ filter p xs) (filter p xs)) ≤ sum_by f (cond c (x ∷ filter q xs) (filter q xs))
    by true true e g rest = omega (arith, rest, sum_by-cons f x (filter p xs), sum_by-cons f x (filter q xs))
    by true false e g rest = absurd (clash (sym (h x e) ∙ g))
      where
        clash : true ≡ false → ⊥
        clash c = cc
    by false true e g rest = omega (arith, rest, sum_by-cons f x (filter q xs))
    by false false e g rest = rest

part_of_frame : (w : BoundWindow) (row other : List Value) → in_frame w row other ≡ true → in_partition w row other ≡ true
part_of_frame w row other e = left (in_partition w row other) _ e
  where
    left : (a b : Bool) → (a && b) ≡ true → a ≡ true
    left true b h = refl
    left false b h = cc

frame_great : (w : BoundWindow) (a : Aggregate) (rows : List (List Value)) (row : List Value) → IsGreatSum (filter (in_frame w row) rows) a → IsGreatSum (filter (in_partition w row) rows) a
frame_great w a rows row great = (great.0, by a.arg great.1)
  where
    by : (o : Option Expr) → result_bound < size_of (values_over o (filter (in_frame w row) rows)) → result_bound < size_of (values_over o (filter (in_partition w row) rows))
    by None h = h
    by (Some e) h =
        let small = size_sum 0 (values_over (Some e) (filter (in_frame w row) rows)) in
        let great = size_sum 0 (values_over (Some e) (filter (in_partition w row) rows)) in
        omega (arith, sizes e (filter (in_frame w row) rows), sizes e (filter (in_partition w row) rows), less_kept (adds e) (in_frame w row) (in_partition w row) (part_of_frame w row) rows)

shorter : {X : Type 0} (p : X → Bool) (xs : List X) → length (filter p xs) ≤ length xs
shorter p [] = omega arith
shorter p (x ∷ xs) =
    elim (p x) as (λ b. length (cond b (x ∷ filter p xs) (filter p xs)) ≤ length (x ∷ xs)) [
      | true ↦ omega (arith, shorter p xs)
      | false ↦ omega (arith, shorter p xs)
    ]

long_enumerated : (n : ℕ) (rows : List (List Value)) → length (enumerate_from n rows) ≡ length rows
long_enumerated n [] = refl
long_enumerated n (row ∷ rows) = ap suc (long_enumerated (n + 1) rows)

by_kind : (kind : WindowKind) (a : Aggregate) (n b : ℕ) (frame : Wide) → n < column_bound → b < column_bound → bound_of_value frame ≤ bound_of_aggregate a → bound_of_value (window_over kind n b frame) ≤ window_bound kind a
by_kind WindowKind.RowNumber a n b frame h g k = omega arith
by_kind WindowKind.Rank a n b frame h g k = omega arith
by_kind WindowKind.CountAll a n b frame h g k = k
by_kind WindowKind.Count a n b frame h g k = k
by_kind WindowKind.Sum a n b frame h g k = k

module _ (rows : List (List Value)) (values : All IsRow rows) (few : length rows < column_bound) where
  value_bounded : (p : BoundWindow × Aggregate) (t : ℕ × List Value) → Contains rows t.1 → (HasGreatPartition p.0 p.1 rows → ⊥) → bound_of_value (window_value rows t p) ≤ bound_beside p
  value_bounded p t there fits =
      let numbers = count_by-le-length (is_numbered_before p.0 t) (enumerate_from 0 rows) in
      let befores = count_by-le-length (stands_before p.0 t.1) rows in
      let long = long_enumerated 0 rows in
      let frame = filter (in_frame p.0 t.1) rows in
      let framed = aggregate_at_most p.1 frame (All-filter (in_frame p.0 t.1) IsRow rows values) (omega (arith, shorter (in_frame p.0 t.1) rows))
      (λ great. fits (t.1, there, frame_great p.0 p.1 rows t.1 great)) in
      by_kind p.0.kind p.1 (count_by (is_numbered_before p.0 t) (enumerate_from 0 rows)) (count_by (stands_before p.0 t.1) rows) (aggregate_over frame p.1) (omega arith) (omega arith) framed

  values_bounded : (ps : List (BoundWindow × Aggregate)) (t : ℕ × List Value) → Contains rows t.1 → All (λ p. HasGreatPartition p.0 p.1 rows → ⊥) ps
      → (i : ℕ) → get_or (map bound_of_value (map (window_value rows t) ps)) i 0 ≤ get_or (map bound_beside ps) i 0
  values_bounded [] t there fits i = omega arith
  values_bounded (p ∷ ps) t there fits zero = value_bounded p t there (All-head (λ z. HasGreatPartition z.0 z.1 rows → ⊥) p ps fits)
  values_bounded (p ∷ ps) t there fits (suc i) = values_bounded ps t there (All-tail (λ z. HasGreatPartition z.0 z.1 rows → ⊥) p ps fits) i

  none_great : (q : BoundQuery) → (HasGreatWindow q rows → ⊥) → All (λ p. HasGreatPartition p.0 p.1 rows → ⊥) (zip q.windows q.aggs)
  none_great q fits = λ k d h great. fits (get_or (zip q.windows q.aggs) k d, Contains-get_or (zip q.windows q.aggs) k d h, great)

  items_narrow : (q : BoundQuery) (t : ℕ × List Value) → Contains rows t.1 → (HasGreatWindow q rows → ⊥) → (es : List Expr) → All (λ e. is_narrow (map bound_beside (zip q.windows q.aggs)) e ≡ true) es
      → All (λ e. is_narrow (map bound_of_value (window_scope q rows t).aggs) e ≡ true) es
  items_narrow q t there fits es narrow =
      λ k d h. less (map bound_of_value (map (window_value rows t) (zip q.windows q.aggs))) (map bound_beside (zip q.windows q.aggs)) (values_bounded (zip q.windows q.aggs) t there (none_great q fits)) (get_or es k d) (narrow k d h)

  rows_there : (n : ℕ) (rest front : List (List Value)) → front ++ rest ≡ rows → All (λ t. Contains rows t.1) (enumerate_from n rest)
  rows_there n [] front e = All-nil (λ t. Contains rows t.1)
  rows_there n (row ∷ rest) front e =
      All-cons (λ (t : ℕ × List Value). Contains rows t.1) (n, row) (enumerate_from (n + 1) rest)
      (subst (λ (xs : List (List Value)). Contains xs row) e (Contains-append_right front (row ∷ rest) row (Contains-get_or (row ∷ rest) 0 row (omega arith))))
      (rows_there (n + 1) rest (front ++ row ∷ []) (append_assoc front (row ∷ []) rest ∙ e))

  pub all_narrow_beside : (q : BoundQuery) → (HasGreatWindow q rows → ⊥) → All (λ e. is_narrow (map bound_beside (zip q.windows q.aggs)) e ≡ true) q.items
      → All (λ t. All (λ e. is_narrow (map bound_of_value (window_scope q rows t).aggs) e ≡ true) q.items) (enumerate_from 0 rows)
  all_narrow_beside q fits narrow =
      All-weaker (λ t. Contains rows t.1) (λ t. All (λ e. is_narrow (map bound_of_value (window_scope q rows t).aggs) e ≡ true) q.items) (λ t there. items_narrow q t there fits q.items narrow) (enumerate_from 0 rows)
      (rows_there 0 rows [] refl)

-- ---- the columns at a place

cell_at : (rows : List (List Value)) (f : ℕ × List Value → Wide) (n i : ℕ) (rest : List (List Value)) → i < length rest → get_or (map f (enumerate_from n rest)) i wide.Null ≡ f (n + i, get_or rest i [])
cell_at rows f n i [] h = absurd (omega arith)
cell_at rows f n zero (row ∷ rest) h = let same : n ≡ n + 0 = omega arith in ap (λ (m : ℕ). f (m, row)) same
cell_at rows f n (suc i) (row ∷ rest) h =
    let same : (n + 1) + i ≡ n + suc i = omega arith in
    cell_at rows f (n + 1) i rest (omega arith) ∙ ap (λ (m : ℕ). f (m, get_or rest i [])) same

-- the values beside a row
pub values_beside : (rows : List (List Value)) (i : ℕ) → i < length rows → (ps : List (BoundWindow × Aggregate)) → map (λ c. get_or c i wide.Null) (map (column_of rows) ps) ≡ map (window_value rows (i, get_or rows i [])) ps
values_beside rows i h [] = refl
values_beside rows i h (p ∷ ps) =
    let none : 0 + i ≡ i = omega arith in
    ap₂ (λ (v : Wide) (vs : List Wide). v ∷ vs) (cell_at rows (λ t. window_value rows t p) 0 i rows h ∙ ap (λ (m : ℕ). window_value rows (m, get_or rows i []) p) none) (values_beside rows i h ps)

enumerated : (n i : ℕ) (rest : List (List Value)) (d : ℕ × List Value) → i < length rest → get_or (enumerate_from n rest) i d ≡ (n + i, get_or rest i [])
enumerated n i [] d h = absurd (omega arith)
enumerated n zero (row ∷ rest) d h = let same : n ≡ n + 0 = omega arith in ap (λ (m : ℕ). (m, row)) same
enumerated n (suc i) (row ∷ rest) d h =
    let same : (n + 1) + i ≡ n + suc i = omega arith in
    enumerated (n + 1) i rest d (omega arith) ∙ ap (λ (m : ℕ). (m, get_or rest i [])) same

pub row_at_place : (rows : List (List Value)) (i : ℕ) (d : ℕ × List Value) → i < length rows → get_or (enumerate_from 0 rows) i d ≡ (i, get_or rows i [])
row_at_place rows i d h =
    let none : 0 + i ≡ i = omega arith in
    enumerated 0 i rows d h ∙ ap (λ (m : ℕ). (m, get_or rows i [])) none

pub inside_enumerated : (rows : List (List Value)) (i : ℕ) → i < length rows → i < length (enumerate_from 0 rows)
inside_enumerated rows i h = omega (arith, long_enumerated 0 rows)

pub past_enumerated : (rows : List (List Value)) (i : ℕ) → length rows ≤ i → length (enumerate_from 0 rows) ≤ i
past_enumerated rows i h = omega (arith, long_enumerated 0 rows)

-- ---- a row as the items see it

pub scope_beside : (q : BoundQuery) (rows : List (List Value)) (i : ℕ) (row : List Value) (values : List Wide) (columns : List (List Wide)) (s : Scope) → i < length rows → row ≡ get_or rows i [] → values ≡ map (λ c. get_or c i wide.Null) columns
    → AreColumns q rows columns → (let made : Scope = record { row = row; keys = []; aggs = values } in s ≡ made) → s ≡ window_scope q rows (i, get_or rows i [])
scope_beside q rows i row values columns s h is are all same =
    same
    ∙ ap₂ (λ (r : List Value) (ws : List Wide). let made : Scope = record { row = r; keys = []; aggs = ws } in made) is
    (are ∙ ap (map (λ (c : List Wide). get_or c i wide.Null)) all ∙ values_beside rows i h (zip q.windows q.aggs))

pub row_narrow : (q : BoundQuery) (rows : List (List Value)) (columns : List (List Wide)) → AreBeside q rows columns → (i : ℕ) → i < length rows
    → All (λ e. is_narrow (map bound_of_value (window_scope q rows (i, get_or rows i [])).aggs) e ≡ true) q.items
row_narrow q rows columns beside i h =
    let d : ℕ × List Value = (0, []) in
    subst (λ (t : ℕ × List Value). All (λ e. is_narrow (map bound_of_value (window_scope q rows t).aggs) e ≡ true) q.items) (row_at_place rows i d h) (beside.narrow i d (inside_enumerated rows i h))

twice_mapped : {X Y Z : Type 0} (f : X → Y) (g : Y → Z) (xs : List X) → map (λ x. g (f x)) xs ≡ map g (map f xs)
twice_mapped f g [] = refl
twice_mapped {X} {Y} {Z} f g (x ∷ xs) = ap (λ (l : List Z). g (f x) ∷ l) (twice_mapped f g xs)

pub all_beside : (q : BoundQuery) (rows : List (List Value)) → map (λ t. items_in q (window_scope q rows t)) (enumerate_from 0 rows) ≡ map (items_in q) (window_scopes q rows)
all_beside q rows = twice_mapped (window_scope q rows) (items_in q) (enumerate_from 0 rows)
