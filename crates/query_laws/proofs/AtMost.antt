-- No aggregate is greater than its bound.
use Rattle.std.proofs.Common.{◌≡◌, ℕ, zero, suc, ◌+◌, ◌≤◌, ◌<◌, ℤ, pos, negsuc, ◌+ℤ◌, ◌≤ℤ◌, neg_ℤ, not, if◌then◌else◌, Bool, true, false, List, [], ◌∷◌, length, get_or, map, filter, fold, Option, Some, None, refl, sym, ◌∙◌, arith, inl, inr, subst}
use Rattle.std.proofs.lemmas.Bool.{cases_lt}
use Rattle.std.proofs.lemmas.Int.{ints}
use Rattle.std.proofs.lemmas.List.Elements.{All-filter, All-map, All-cons, All-get_or, All-contains_itself}
use Rattle.std.proofs.lemmas.List.{length-map, get_or_past}
use Rattle.std.specs.List.{All, Contains}
use Rattle.std.specs.Option.{option_map_or}
use Rattle.std.specs.Ordering.{is_lt}
use Rattle.col_value.specs.Order.{IsRow, IsValue, wide_cmp}
use Rattle.col_value.specs.declared.value.Value.{Value}
use Rattle.col_value.specs.declared.value.Value.TheVariants.{Null}
use Rattle.col_value.specs.declared.wide.Wide.{Wide}
use Rattle.sql_tree.specs.declared.tree.AggKind.{AggKind}
use Rattle.sql_bound.specs.declared.expr.Expr.{Expr}
use Rattle.sql_bound.specs.declared.query.Aggregate.{Aggregate}
use Rattle.sql_bound.specs.declared.query.BoundQuery.{BoundQuery}
use Rattle.sql_bound.specs.Bounds.{bound_of, bound_of_value, bound_over, bound_of_aggregate, column_bound, magnitude, result_bound}
use Rattle.sql_bound.specs.Outputs.{aggregated, aggregate_over, greater, lesser, IsGreatSum, number_or_zero, size_of, values_over, members, same_keys, keys_of, distinct, group_keys}
use Rattle.sql_bound.specs.Values.{is_null, of_row, value_of}
use Rattle.expr_value.proofs.Bounded.{bounded}
use Rattle.query_laws.specs.Scopes.{HasGreatSum}
use Rattle.query_laws.specs.Scopes.{IsGroupOf}

row_bounded : (row : List Value) → IsRow row → (e : Expr) → bound_of_value (value_of (of_row row) e) ≤ bound_of [] e
row_bounded row p e = bounded (of_row row) (record { rows = p; keys = λ k d h. absurd (omega arith) }) e

-- the values of an argument
values_at_most : (e : Expr) (rows : List (List Value)) → All IsRow rows → All (λ w. bound_of_value w ≤ bound_of [] e) (values_over (Some e) rows)
values_at_most e rows p =
    All-filter (λ w. not (is_null w)) (λ w. bound_of_value w ≤ bound_of [] e) (map (λ row. value_of (of_row row) e) rows)
    (All-map (λ w. bound_of_value w ≤ bound_of [] e) (λ row. value_of (of_row row) e) rows (λ k d h. row_bounded (get_or rows k d) (p k d h) e))

module _ {X : Type 0} (p : X → Bool) where
  filter_length : (xs : List X) → length (filter p xs) ≤ length xs
  filter_length [] = omega arith
  filter_length (x ∷ xs) =
      elim (p x) as (λ b. length (if b then x ∷ filter p xs else filter p xs) ≤ length (x ∷ xs)) [
        | true ↦ omega (arith, filter_length xs)
        | false ↦ omega (arith, filter_length xs)
      ]

values_count : (arg : Option Expr) (rows : List (List Value)) → length (values_over arg rows) ≤ length rows
values_count None rows = omega arith
values_count (Some e) rows =
    omega (arith, filter_length (λ w. not (is_null w)) (map (λ row. value_of (of_row row) e) rows), length-map rows (λ (row : List Value). value_of (of_row row) e))

-- a least and a greatest value is one of the values
least_at_most : (n : ℕ) (w : Wide) (ws : List Wide) → bound_of_value w ≤ n → All (λ v. bound_of_value v ≤ n) ws → bound_of_value (fold lesser w ws) ≤ n
least_at_most n w [] h p = h
least_at_most n w (v ∷ ws) h p =
    least_at_most n (lesser w v) ws (elim (is_lt (wide_cmp v w)) as (λ b. bound_of_value (if b then v else w) ≤ n) [ true ↦ p 0 v (omega arith) | false ↦ h ])
    (λ k d l. p (suc k) d (omega arith))

greatest_at_most : (n : ℕ) (w : Wide) (ws : List Wide) → bound_of_value w ≤ n → All (λ v. bound_of_value v ≤ n) ws → bound_of_value (fold greater w ws) ≤ n
greatest_at_most n w [] h p = h
greatest_at_most n w (v ∷ ws) h p =
    greatest_at_most n (greater w v) ws (elim (is_lt (wide_cmp w v)) as (λ b. bound_of_value (if b then v else w) ≤ n) [ true ↦ p 0 v (omega arith) | false ↦ h ])
    (λ k d l. p (suc k) d (omega arith))

-- a sum is no greater than the magnitudes added up
below : (n : ℤ) → n ≤ℤ pos (magnitude n)
below (pos n) = omega (arith, ints)
below (negsuc n) = omega (arith, ints)

above : (n : ℤ) → neg_ℤ (pos (magnitude n)) ≤ℤ n
above (pos n) = omega (arith, ints)
above (negsuc n) = omega (arith, ints)

between : (n : ℤ) (m : ℕ) → n ≤ℤ pos m → neg_ℤ (pos m) ≤ℤ n → magnitude n ≤ m
between (pos n) m h g = omega (arith, ints, h)
between (negsuc n) m h g = omega (arith, ints, g)

magnitude_sum : (a b : ℤ) → magnitude (a +ℤ b) ≤ magnitude a + magnitude b
magnitude_sum a b =
    between (a +ℤ b) (magnitude a + magnitude b) (omega (arith, ints, below a, below b)) (omega (arith, ints, above a, above b))

sum_at_most : (n : ℤ) (m : ℕ) (ws : List Wide) → magnitude n ≤ m → magnitude (fold (λ n w. n +ℤ number_or_zero w) n ws) ≤ fold (λ n w. n + magnitude (number_or_zero w)) m ws
sum_at_most n m [] h = h
sum_at_most n m (w ∷ ws) h = sum_at_most (n +ℤ number_or_zero w) (m + magnitude (number_or_zero w)) ws (omega (arith, magnitude_sum n (number_or_zero w)))

at_most : (kind : AggKind) (count n : ℕ) (ws : List Wide) → count ≤ column_bound → length ws ≤ count → All (λ w. bound_of_value w ≤ n) ws → (kind ≡ AggKind.Sum → size_of ws ≤ result_bound) → bound_of_value (aggregated kind count ws) ≤ bound_over kind n
at_most AggKind.CountAll count n ws a b p s = a
at_most AggKind.Count count n ws a b p s = omega arith
at_most AggKind.Sum count n [] a b p s = omega arith
at_most AggKind.Sum count n (w ∷ ws) a b p s = omega (arith, sum_at_most (pos 0) 0 (w ∷ ws) (omega arith), s refl)
at_most AggKind.Min count n [] a b p s = omega arith
at_most AggKind.Min count n (w ∷ ws) a b p s = least_at_most n w ws (p 0 w (omega arith)) (λ k d l. p (suc k) d (omega arith))
at_most AggKind.Max count n [] a b p s = omega arith
at_most AggKind.Max count n (w ∷ ws) a b p s = greatest_at_most n w ws (p 0 w (omega arith)) (λ k d l. p (suc k) d (omega arith))

argument_at_most : (arg : Option Expr) (rows : List (List Value)) → All IsRow rows → All (λ w. bound_of_value w ≤ option_map_or (bound_of []) arg 0) (values_over arg rows)
argument_at_most None rows p = λ k d h. absurd (omega arith)
argument_at_most (Some e) rows p = values_at_most e rows p

pub aggregate_at_most : (a : Aggregate) (rows : List (List Value)) → All IsRow rows → length rows ≤ column_bound → (IsGreatSum rows a → ⊥) → bound_of_value (aggregate_over rows a) ≤ bound_of_aggregate a
aggregate_at_most a rows p l s =
    at_most a.kind (length rows) (option_map_or (bound_of []) a.arg 0) (values_over a.arg rows) l (values_count a.arg rows) (argument_at_most a.arg rows p)
    (λ e. elim (cases_lt result_bound (size_of (values_over a.arg rows))) [ inl great ↦ absurd (s (e, great)) | inr small ↦ small ])

aggregates_at_most : (aggs : List Aggregate) (rows : List (List Value)) → All IsRow rows → length rows ≤ column_bound → All (λ a. IsGreatSum rows a → ⊥) aggs → (i : ℕ) → get_or (map bound_of_value (map (aggregate_over rows) aggs)) i 0 ≤ get_or (map bound_of_aggregate aggs) i 0
aggregates_at_most [] rows p l s i = omega arith
aggregates_at_most (a ∷ aggs) rows p l s zero = aggregate_at_most a rows p l (s 0 a (omega arith))
aggregates_at_most (a ∷ aggs) rows p l s (suc i) = aggregates_at_most aggs rows p l (λ k d h. s (suc k) d (omega arith)) i

-- the tuples of a group are rows where all are
pub members_are_rows : (keys : List ℕ) (group : List Value) (rows found : List (List Value)) → found ≡ members keys group rows → All IsRow rows → All IsRow found
members_are_rows keys group rows found e p = subst (All IsRow) (sym e) (All-filter (λ row. same_keys group (keys_of keys row)) IsRow rows p)

value_is : (row : List Value) (i : ℕ) → IsRow row → IsValue (get_or row i Null)
value_is row i p = elim (cases_lt i (length row)) [ inl h ↦ p i Null h | inr h ↦ subst IsValue (sym (get_or_past row i Null h)) tt ]

keys_are : (keys : List ℕ) (row : List Value) → IsRow row → IsRow (keys_of keys row)
keys_are keys row p = All-map IsValue (λ k. get_or row k Null) keys (λ k d h. value_is row (get_or keys k d) p)

distinct_are : (P : List Value → Type 0) (keys : List (List Value)) → All P keys → All P (distinct keys)
distinct_are P [] p = p
distinct_are P (key ∷ keys) p =
    All-cons P key (filter (λ other. not (same_keys key other)) (distinct keys)) (p 0 key (omega arith))
    (All-filter (λ other. not (same_keys key other)) P (distinct keys) (distinct_are P keys (λ k d h. p (suc k) d (omega arith))))

-- the keys of the groups are rows of values
groups_are_rows : (keys : List ℕ) (rows found : List (List Value)) → found ≡ group_keys keys rows → All IsRow rows → All IsRow found
groups_are_rows [] rows found e p = subst (All IsRow) (sym e) (λ k d h. only k d h)
  where
    only : (k : ℕ) (d : List Value) → k < 1 → IsRow (get_or ([] ∷ []) k d)
    only zero d h = λ i v l. absurd (omega arith)
    only (suc k) d h = absurd (omega arith)
groups_are_rows (key ∷ keys) rows found e p =
    subst (All IsRow) (sym e) (distinct_are IsRow (map (keys_of (key ∷ keys)) rows) (All-map IsRow (keys_of (key ∷ keys)) rows (λ k d h. keys_are (key ∷ keys) (get_or rows k d) (p k d h))))

pub group_fits : (q : BoundQuery) (keys : List Value) (rows : List (List Value)) (values : List Wide) → IsRow keys → All IsRow rows → length rows ≤ column_bound → (HasGreatSum q.aggs rows → ⊥) → values ≡ map (aggregate_over rows) q.aggs → IsGroupOf q (record { row = []; keys = keys; aggs = values })
group_fits q keys rows values k p l s e = record {
  keys = k;
  aggs = λ i.
      subst (λ (ws : List Wide). get_or (map bound_of_value ws) i 0 ≤ get_or (map bound_of_aggregate q.aggs) i 0) (sym e)
      (aggregates_at_most q.aggs rows p l (λ j d h great. s (get_or q.aggs j d, All-get_or (Contains q.aggs) q.aggs j d h (All-contains_itself q.aggs), great)) i);
}

pub group_is_row : (keys : List ℕ) (rows found : List (List Value)) (i : ℕ) (x y : List Value) → found ≡ group_keys keys rows → All IsRow rows → i < length found → x ≡ get_or found i x → y ≡ x → IsRow y
group_is_row keys rows found i x y e p h is same = subst IsRow (sym (same ∙ is)) (All-get_or IsRow found i x h (groups_are_rows keys rows found e p))
