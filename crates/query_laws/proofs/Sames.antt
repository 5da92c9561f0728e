-- What is made of the same tuples, in whatever order they come, is the same.
use Rattle.std.proofs.Common.{◌≡◌, ℕ, ◌+◌, ℤ, pos, negsuc, ◌+ℤ◌, not, List, [], ◌∷◌, length, map, fold, Option, Some, None, refl, sym, ap, ap₂, arith}
use Rattle.std.proofs.lemmas.Cmp.{back_total}
use Rattle.std.proofs.lemmas.Int.{ints}
use Rattle.std.proofs.lemmas.List.Sums.{sum_by-cons}
use Rattle.std.specs.FinMap.{IsAntisymmetric}
use Rattle.std.specs.List.{sum_by}
use Rattle.std.specs.Ordering.{flip_args}
use Rattle.col_value.specs.Laws.{wide_exact, wide_total}
use Rattle.col_value.specs.Order.{wide_cmp}
use Rattle.col_value.specs.declared.value.Value.{Value}
use Rattle.col_value.specs.declared.wide.Wide.{Wide}
use Rattle.col_value.specs.declared.wide.Wide.TheVariants as wide
use Rattle.sql_tree.specs.declared.tree.AggKind.{AggKind}
use Rattle.sql_bound.specs.declared.expr.Expr.{Expr}
use Rattle.sql_bound.specs.declared.query.Aggregate.{Aggregate}
use Rattle.sql_bound.specs.Outputs.{aggregate_over, aggregated, keys_of, members, number_or_zero, plain_sum, same_keys, values_over}
use Rattle.sql_bound.specs.Values.{is_null, of_row, value_of}
use Rattle.query_laws.proofs.Alike.{Alike, alike_filter, alike_length, alike_map}
use Rattle.query_laws.proofs.Best.{same_best}

pub alike_refl : {X : Type 0} (xs : List X) → Alike xs xs
alike_refl xs = record { sums = λ f. refl }

pub map_same : {X Y : Type 0} (f g : X → Y) → ((x : X) → f x ≡ g x) → (xs : List X) → map f xs ≡ map g xs
map_same f g h [] = refl
map_same {X} {Y} f g h (x ∷ xs) = ap₂ (λ (y : Y) (ys : List Y). y ∷ ys) (h x) (map_same f g h xs)

-- what a number adds, and what it takes away
up : ℤ → ℕ
up (pos n) = n
up (negsuc n) = 0

down : ℤ → ℕ
down (pos n) = 0
down (negsuc n) = n + 1

parts : (n : ℤ) → n +ℤ pos (down n) ≡ pos (up n)
unfolding up down
parts (pos n) = omega (arith, ints)
parts (negsuc n) = omega (arith, ints)

sum_parts : (n : ℤ) (ws : List Wide) → fold (λ m w. m +ℤ number_or_zero w) n ws +ℤ pos (sum_by (λ w. down (number_or_zero w)) ws) ≡ n +ℤ pos (sum_by (λ w. up (number_or_zero w)) ws)
sum_parts n [] = refl
sum_parts n (w ∷ ws) =
    omega (arith, ints, sum_parts (n +ℤ number_or_zero w) ws, parts (number_or_zero w), sum_by-cons (λ (v : Wide). down (number_or_zero v)) w ws, sum_by-cons (λ (v : Wide). up (number_or_zero v)) w ws)

same_sum : (ws vs : List Wide) → Alike ws vs → plain_sum ws ≡ plain_sum vs
same_sum ws vs a = omega (arith, ints, sum_parts (pos 0) ws, sum_parts (pos 0) vs, a.sums (λ w. down (number_or_zero w)), a.sums (λ w. up (number_or_zero w)))

back_exact : IsAntisymmetric (flip_args wide_cmp)
back_exact a b e = sym (wide_exact b a e)

same_aggregated : (kind : AggKind) (m n : ℕ) (ws vs : List Wide) → m ≡ n → Alike ws vs → aggregated kind m ws ≡ aggregated kind n vs
same_aggregated AggKind.CountAll m n ws vs e a = ap (λ k. wide.Int (pos k)) e
same_aggregated AggKind.Count m n ws vs e a = ap (λ k. wide.Int (pos k)) (alike_length ws vs a)
same_aggregated AggKind.Sum m n [] [] e a = refl
same_aggregated AggKind.Sum m n [] (v ∷ vs) e a = absurd (omega (arith, alike_length [] (v ∷ vs) a))
same_aggregated AggKind.Sum m n (w ∷ ws) [] e a = absurd (omega (arith, alike_length (w ∷ ws) [] a))
same_aggregated AggKind.Sum m n (w ∷ ws) (v ∷ vs) e a = ap wide.Int (same_sum (w ∷ ws) (v ∷ vs) a)
same_aggregated AggKind.Min m n [] [] e a = refl
same_aggregated AggKind.Min m n [] (v ∷ vs) e a = absurd (omega (arith, alike_length [] (v ∷ vs) a))
same_aggregated AggKind.Min m n (w ∷ ws) [] e a = absurd (omega (arith, alike_length (w ∷ ws) [] a))
same_aggregated AggKind.Min m n (w ∷ ws) (v ∷ vs) e a = same_best wide_cmp wide_total wide_exact w ws v vs a
same_aggregated AggKind.Max m n [] [] e a = refl
same_aggregated AggKind.Max m n [] (v ∷ vs) e a = absurd (omega (arith, alike_length [] (v ∷ vs) a))
same_aggregated AggKind.Max m n (w ∷ ws) [] e a = absurd (omega (arith, alike_length (w ∷ ws) [] a))
same_aggregated AggKind.Max m n (w ∷ ws) (v ∷ vs) e a = same_best (flip_args wide_cmp) (back_total wide_total) back_exact w ws v vs a

pub values_alike : (arg : Option Expr) (rows others : List (List Value)) → Alike rows others → Alike (values_over arg rows) (values_over arg others)
values_alike None rows others a = alike_refl []
values_alike (Some e) rows others a =
    let f = λ (row : List Value). value_of (of_row row) e in
    alike_filter (λ w. not (is_null w)) (map f rows) (map f others) (alike_map f rows others a)

pub same_aggregate : (rows others : List (List Value)) → Alike rows others → (a : Aggregate) → aggregate_over rows a ≡ aggregate_over others a
same_aggregate rows others same a =
    same_aggregated a.kind (length rows) (length others) (values_over a.arg rows) (values_over a.arg others) (alike_length rows others same)
    (values_alike a.arg rows others same)

pub members_alike : (keys : List ℕ) (group : List Value) (rows others : List (List Value)) → Alike rows others → Alike (members keys group rows) (members keys group others)
members_alike keys group rows others a = alike_filter (λ row. same_keys group (keys_of keys row)) rows others a
