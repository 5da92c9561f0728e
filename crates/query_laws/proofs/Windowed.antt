-- What windows make of tuples is the same for every order of the tuples.
use Rattle.std.proofs.Common.{◌≡◌, ℕ, ◌+◌, ◌<◌, ◌≤◌, ◌++◌, nat_lt, Bool, true, false, cond, List, [], ◌∷◌, length, map, filter, refl, sym, ap, ap₂, ◌∙◌, arith, subst}
use Rattle.std.specs.Prelude.{◌&&◌}
use Rattle.std.specs.List.{count_by, enumerate_from, zip}
use Rattle.std.specs.Ordering.{is_eq, is_lt, nat_cmp, ordering_then}
use Rattle.std.specs.declared.cmp.Ordering.{Ordering}
use Rattle.std.proofs.lemmas.Bool.Decides.{nat_tests}
use Rattle.std.proofs.lemmas.Cmp.{tied_back, tied_itself}
use Rattle.std.proofs.lemmas.List.{append_assoc, length-append}
use Rattle.col_value.specs.Laws.{row_total}
use Rattle.col_value.specs.Order.{row_cmp}
use Rattle.col_value.specs.declared.value.Value.{Value}
use Rattle.col_value.specs.declared.wide.Wide.{Wide}
use Rattle.sql_bound.specs.declared.query.Aggregate.{Aggregate}
use Rattle.sql_bound.specs.declared.query.BoundQuery.{BoundQuery}
use Rattle.sql_bound.specs.declared.query.BoundWindow.{BoundWindow}
use Rattle.sql_bound.specs.Outputs.{aggregate_over, in_frame, in_partition, is_numbered_before, keys_of, number_cmp, same_keys, stands_before, window_cmp, window_over, window_scope, window_scopes, window_value}
use Rattle.sql_bound.specs.Values.{Scope}
use Rattle.query_laws.proofs.Alike.{Alike, alike_filter, alike_map}
use Rattle.query_laws.proofs.Numbered.{counts_cons, numbered, numbered_alike}
use Rattle.query_laws.proofs.Once.{same_equal, same_itself}
use Rattle.query_laws.proofs.Sames.{map_same, same_aggregate}
use Rattle.query_laws.proofs.WindowOrders.{window_itself}

abbrev Row : Type 0
Row = List Value

abbrev one_if : Bool → ℕ
one_if b = cond b 1 0

-- of the partition, and before a row without regard to places
abbrev pub row_before : BoundWindow → Row → Row → Bool
row_before w row other = in_partition w row other && is_lt (ordering_then (window_cmp w.order other row) (row_cmp other row))

-- like a tuple, and at a place before its
abbrev pub like_before : ℕ × Row → ℕ × Row → Bool
like_before t other = same_keys t.1 other.1 && nat_lt other.0 t.0

nat_less : (a b : ℕ) → is_lt (nat_cmp a b) ≡ nat_lt a b
nat_less a b = grind (arith, nat_tests)

-- a tuple is numbered before another by its row, or by its place where the rows are alike
module _ (w : BoundWindow) (t other : ℕ × Row) where
  alike_rows : same_keys t.1 other.1 ≡ true → one_if (is_numbered_before w t other) ≡ one_if (row_before w t.1 other.1) + one_if (like_before t other)
  alike_rows same =
      let rows : other.1 ≡ t.1 = sym (same_equal t.1 other.1 same) in
      let part : in_partition w t.1 other.1 ≡ true = ap (in_partition w t.1) rows ∙ same_itself (keys_of w.partition t.1) in
      let tied : window_cmp w.order other.1 t.1 ≡ Ordering.Equal = ap (λ (r : Row). window_cmp w.order r t.1) rows ∙ window_itself w.order t.1 in
      let row : row_cmp other.1 t.1 ≡ Ordering.Equal = ap (λ (r : Row). row_cmp r t.1) rows ∙ tied_itself row_total t.1 in
      let all : number_cmp w other t ≡ nat_cmp other.0 t.0 = ap₂ (λ (a b : Ordering). ordering_then a (ordering_then b (nat_cmp other.0 t.0))) tied row in
      let left : is_numbered_before w t other ≡ nat_lt other.0 t.0 = ap₂ (λ (a : Bool) (o : Ordering). a && is_lt o) part all ∙ nat_less other.0 t.0 in
      let first : row_before w t.1 other.1 ≡ false = ap₂ (λ (a : Bool) (o : Ordering). a && is_lt o) part (ap₂ ordering_then tied row) in
      let second : like_before t other ≡ nat_lt other.0 t.0 = ap (λ (a : Bool). a && nat_lt other.0 t.0) same in
      let before : one_if (row_before w t.1 other.1) ≡ 0 = ap one_if first in
      omega (arith, ap one_if left, before, ap one_if second)

  other_rows : same_keys t.1 other.1 ≡ false → one_if (is_numbered_before w t other) ≡ one_if (row_before w t.1 other.1) + one_if (like_before t other)
  other_rows unlike =
      elim (row_cmp other.1 t.1) as (λ b. row_cmp other.1 t.1 ≡ b →
      one_if (in_partition w t.1 other.1 && is_lt (ordering_then (window_cmp w.order other.1 t.1) (ordering_then b (nat_cmp other.0 t.0))))
      ≡ one_if (in_partition w t.1 other.1 && is_lt (ordering_then (window_cmp w.order other.1 t.1) b)) + one_if (like_before t other)) [
        | Ordering.Less ↦ λ h. let none = ap one_if second in omega arith
        | Ordering.Equal ↦ λ h.
            let same : same_keys t.1 other.1 ≡ true = ap is_eq (tied_back row_total other.1 t.1 h) in
            absurd (clash (sym same ∙ unlike))
        | Ordering.Greater ↦ λ h. let none = ap one_if second in omega arith
      ] refl
    where
      second : like_before t other ≡ false
      second = ap (λ (a : Bool). a && nat_lt other.0 t.0) unlike

      clash : true ≡ false → ⊥
      clash e = cc

  one_split : one_if (is_numbered_before w t other) ≡ one_if (row_before w t.1 other.1) + one_if (like_before t other)
  one_split =
      elim (same_keys t.1 other.1) as (λ b. same_keys t.1 other.1 ≡ b → one_if (is_numbered_before w t other) ≡ one_if (row_before w t.1 other.1) + one_if (like_before t other)) [
        | true ↦ alike_rows
        | false ↦ other_rows
      ] refl

split_from : (w : BoundWindow) (t : ℕ × Row) (n : ℕ) (rows : List Row)
    → count_by (is_numbered_before w t) (enumerate_from n rows) ≡ count_by (row_before w t.1) rows + count_by (like_before t) (enumerate_from n rows)
split_from w t n [] = refl
split_from w t n (row ∷ rows) =
    omega (
      arith,
      counts_cons (is_numbered_before w t) (n, row) (enumerate_from (n + 1) rows),
      counts_cons (row_before w t.1) row rows,
      counts_cons (like_before t) (n, row) (enumerate_from (n + 1) rows),
      one_split w t (n, row),
      split_from w t (n + 1) rows,
    )

-- ---- how many alike stand before a place

none_behind : (t : ℕ × Row) (n : ℕ) (rows : List Row) → t.0 ≤ n → count_by (like_before t) (enumerate_from n rows) ≡ 0
none_behind t n [] h = refl
none_behind t n (row ∷ rows) h =
    let out : nat_lt n t.0 ≡ false = grind (arith, nat_tests) in
    let one : one_if (like_before t (n, row)) ≡ 0 = ap (λ (b : Bool). one_if (same_keys t.1 row && b)) out ∙ both (same_keys t.1 row) in
    let rest : count_by (like_before t) (enumerate_from (n + 1) rows) ≡ 0 = none_behind t (n + 1) rows (omega arith) in
    omega (arith, counts_cons (like_before t) (n, row) (enumerate_from (n + 1) rows))
  where
    both : (b : Bool) → one_if (b && false) ≡ 0
    both true = refl
    both false = refl

likes_before : (row : Row) (n : ℕ) (before rest : List Row) → count_by (like_before (n + length before, row)) (enumerate_from n (before ++ rest)) ≡ count_by (same_keys row) before
likes_before row n [] rest = none_behind (n + 0, row) n rest (omega arith)
likes_before row n (b ∷ before) rest =
    let t : ℕ × Row = (n + length (b ∷ before), row) in
    let inside : nat_lt n (n + length (b ∷ before)) ≡ true = let one : 0 < length (b ∷ before) = omega arith in grind (arith, nat_tests) in
    let one : one_if (like_before t (n, b)) ≡ one_if (same_keys row b) = ap (λ (i : Bool). one_if (same_keys row b && i)) inside ∙ both (same_keys row b) in
    let place : n + length (b ∷ before) ≡ (n + 1) + length before = omega arith in
    let rest_is : count_by (like_before t) (enumerate_from (n + 1) (before ++ rest)) ≡ count_by (same_keys row) before =
    ap (λ (m : ℕ). count_by (like_before (m, row)) (enumerate_from (n + 1) (before ++ rest))) place ∙ likes_before row (n + 1) before rest in
    omega (arith, counts_cons (like_before t) (n, b) (enumerate_from (n + 1) (before ++ rest)), counts_cons (same_keys row) b before)
  where
    both : (b : Bool) → one_if (b && true) ≡ one_if b
    both true = refl
    both false = refl

-- ---- tuples beside their windows, by how many alike stand before them

value_at : List Row → Row × ℕ → BoundWindow × Aggregate → Wide
value_at rows x p =
    window_over p.0.kind (count_by (row_before p.0 x.0) rows + x.1) (count_by (stands_before p.0 x.0) rows) (aggregate_over (filter (in_frame p.0 x.0) rows) p.1)

scope_at : BoundQuery → List Row → Row × ℕ → Scope
scope_at q rows x = record { row = x.0; keys = []; aggs = map (value_at rows x) (zip q.windows q.aggs) }

value_here : (before : List Row) (row : Row) (rest : List Row) (p : BoundWindow × Aggregate)
    → window_value (before ++ row ∷ rest) (length before, row) p ≡ value_at (before ++ row ∷ rest) (row, count_by (same_keys row) before) p
unfolding value_at
value_here before row rest p =
    let rows = before ++ row ∷ rest in
    let ahead : length before ≡ 0 + length before = omega arith in
    let number : count_by (is_numbered_before p.0 (length before, row)) (enumerate_from 0 rows) ≡ count_by (row_before p.0 row) rows + count_by (same_keys row) before =
    split_from p.0 (length before, row) 0 rows ∙ ap (λ (n : ℕ). count_by (row_before p.0 row) rows + n) (ap (λ (m : ℕ). count_by (like_before (m, row)) (enumerate_from 0 rows)) ahead ∙ likes_before row 0 before (row ∷ rest)) in
    ap (λ (n : ℕ). window_over p.0.kind n (count_by (stands_before p.0 row) rows) (aggregate_over (filter (in_frame p.0 row) rows) p.1)) number

scope_here : (q : BoundQuery) (before : List Row) (row : Row) (rest : List Row)
    → window_scope q (before ++ row ∷ rest) (length before, row) ≡ scope_at q (before ++ row ∷ rest) (row, count_by (same_keys row) before)
unfolding scope_at
scope_here q before row rest =
    let rows = before ++ row ∷ rest in
    ap (λ (ws : List Wide). let s : Scope = record { row = row; keys = []; aggs = ws } in s)
    (map_same (window_value rows (length before, row)) (value_at rows (row, count_by (same_keys row) before)) (value_here before row rest) (zip q.windows q.aggs))

scopes_from : (q : BoundQuery) (before rest : List Row)
    → map (window_scope q (before ++ rest)) (enumerate_from (length before) rest) ≡ map (scope_at q (before ++ rest)) (numbered same_keys same_equal same_itself before rest)
scopes_from q before [] = refl
scopes_from q before (row ∷ rest) =
    let rows = before ++ row ∷ rest in
    let joined : (before ++ row ∷ []) ++ rest ≡ rows = append_assoc before (row ∷ []) rest in
    let place : length (before ++ row ∷ []) ≡ length before + 1 = omega (arith, length-append before (row ∷ [])) in
    let later : map (window_scope q rows) (enumerate_from (length before + 1) rest) ≡ map (scope_at q rows) (numbered same_keys same_equal same_itself (before ++ row ∷ []) rest) =
    ap (λ (n : ℕ). map (window_scope q rows) (enumerate_from n rest)) (sym place)
    ∙ subst (λ (all : List Row). map (window_scope q all) (enumerate_from (length (before ++ row ∷ [])) rest) ≡ map (scope_at q all) (numbered same_keys same_equal same_itself (before ++ row ∷ []) rest)) joined
    (scopes_from q (before ++ row ∷ []) rest) in
    ap₂ (λ (s : Scope) (ss : List Scope). s ∷ ss) (scope_here q before row rest) later

value_same : (rows others : List Row) → Alike rows others → (x : Row × ℕ) (p : BoundWindow × Aggregate) → value_at rows x p ≡ value_at others x p
unfolding value_at
value_same rows others a x p =
    let number : count_by (row_before p.0 x.0) rows + x.1 ≡ count_by (row_before p.0 x.0) others + x.1 = ap (λ (n : ℕ). n + x.1) (a.sums (λ row. one_if (row_before p.0 x.0 row))) in
    let before : count_by (stands_before p.0 x.0) rows ≡ count_by (stands_before p.0 x.0) others = a.sums (λ row. one_if (stands_before p.0 x.0 row)) in
    let frame = same_aggregate (filter (in_frame p.0 x.0) rows) (filter (in_frame p.0 x.0) others) (alike_filter (in_frame p.0 x.0) rows others a) p.1 in
    ap₂ (λ (n m : ℕ). window_over p.0.kind n m (aggregate_over (filter (in_frame p.0 x.0) rows) p.1)) number before
    ∙ ap (window_over p.0.kind (count_by (row_before p.0 x.0) others + x.1) (count_by (stands_before p.0 x.0) others)) frame

scope_same : (q : BoundQuery) (rows others : List Row) → Alike rows others → (x : Row × ℕ) → scope_at q rows x ≡ scope_at q others x
unfolding scope_at
scope_same q rows others a x =
    ap (λ (ws : List Wide). let s : Scope = record { row = x.0; keys = []; aggs = ws } in s)
    (map_same (value_at rows x) (value_at others x) (value_same rows others a x) (zip q.windows q.aggs))

pub windows_alike : (q : BoundQuery) (rows others : List Row) → Alike rows others → Alike (window_scopes q rows) (window_scopes q others)
windows_alike q rows others a =
    let moved = alike_map (scope_at q others) (numbered same_keys same_equal same_itself [] rows) (numbered same_keys same_equal same_itself [] others)
    (numbered_alike same_keys same_equal same_itself rows others a) in
    let here : window_scopes q rows ≡ map (scope_at q others) (numbered same_keys same_equal same_itself [] rows) =
    scopes_from q [] rows ∙ map_same (scope_at q rows) (scope_at q others) (scope_same q rows others a) (numbered same_keys same_equal same_itself [] rows) in
    subst (λ (ss : List Scope). Alike ss (window_scopes q others)) (sym here)
    (subst (Alike (map (scope_at q others) (numbered same_keys same_equal same_itself [] rows))) (sym (scopes_from q [] others)) moved)
