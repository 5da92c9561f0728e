-- Whether a sum passes what a result holds is the same for every order of the rows.
use Rattle.std.proofs.Common.{◌≡◌, ℕ, ◌+◌, ◌<◌, List, [], ◌∷◌, filter, fold, inl, inr, arith, subst}
use Rattle.std.proofs.lemmas.List.Sorted.{Contains-permutation}
use Rattle.std.proofs.lemmas.List.Sums.{sum_by-cons}
use Rattle.std.specs.List.{sum_by}
use Rattle.col_value.specs.declared.value.Value.{Value}
use Rattle.col_value.specs.declared.wide.Wide.{Wide}
use Rattle.query_order.proofs.OneList.{one_printed_list}
use Rattle.sql_bound.specs.declared.query.BoundQuery.{BoundQuery}
use Rattle.sql_bound.specs.Bounds.{magnitude, result_bound}
use Rattle.sql_bound.specs.Outputs.{group_keys, in_partition, kept, members, number_or_zero, output, same_keys, seen_rows, size_of, values_over, HasGreatGroup, HasGreatPartition, HasGreatSum}
use Rattle.sql_bound.specs.Used.{blanked, is_used}
use Rattle.query_laws.proofs.Alike.{Alike, alike_filter, alike_map, alike_permutes}
use Rattle.query_laws.proofs.Once.{same_equal, same_itself}
use Rattle.query_laws.proofs.AnyOrder.{keys_alike, kept_alike, output_permuted}
use Rattle.query_laws.proofs.Sames.{members_alike, values_alike}
use Rattle.query_laws.specs.Laws.{FailsTheSame, PrintsTheSame}

pub size_sum : (n : ℕ) (ws : List Wide) → fold (λ m w. m + magnitude (number_or_zero w)) n ws ≡ n + sum_by (λ w. magnitude (number_or_zero w)) ws
size_sum n [] = omega arith
size_sum n (w ∷ ws) = omega (arith, size_sum (n + magnitude (number_or_zero w)) ws, sum_by-cons (λ (v : Wide). magnitude (number_or_zero v)) w ws)

pub same_size : (ws vs : List Wide) → Alike ws vs → size_of ws ≡ size_of vs
same_size ws vs a = omega (arith, size_sum 0 ws, size_sum 0 vs, a.sums (λ w. magnitude (number_or_zero w)))

great_group : (q : BoundQuery) (rows others : List (List Value)) → Alike rows others → HasGreatGroup q rows → HasGreatGroup q others
great_group q rows others alike (grouped, group, a, here, there, big) =
    let same = same_size (values_over a.arg (members q.keys group rows)) (values_over a.arg (members q.keys group others))
    (values_alike a.arg (members q.keys group rows) (members q.keys group others) (members_alike q.keys group rows others alike)) in (
      grouped,
      group,
      a,
      Contains-permutation (group_keys q.keys rows) (group_keys q.keys others) group
          (alike_permutes same_keys same_equal same_itself (group_keys q.keys rows) (group_keys q.keys others) (keys_alike q.keys rows others alike)) here,
      there,
      (big.0, subst (λ n. result_bound < n) same big.1),
    )

great_partition : (q : BoundQuery) (rows others : List (List Value)) → Alike rows others → HasGreatPartition q rows → HasGreatPartition q others
great_partition q rows others alike (plain, p, row, window, here, big) =
    let seen = alike_map (blanked (is_used q) 0) rows others alike in
    let part = alike_filter (in_partition p.0 row) (seen_rows q rows) (seen_rows q others) seen in
    let same = same_size (values_over p.1.arg (filter (in_partition p.0 row) (seen_rows q rows))) (values_over p.1.arg (filter (in_partition p.0 row) (seen_rows q others)))
    (values_alike p.1.arg (filter (in_partition p.0 row) (seen_rows q rows)) (filter (in_partition p.0 row) (seen_rows q others)) part) in (
      plain,
      p,
      row,
      window,
      Contains-permutation (seen_rows q rows) (seen_rows q others) row (alike_permutes same_keys same_equal same_itself (seen_rows q rows) (seen_rows q others) seen) here,
      (big.0, subst (λ n. result_bound < n) same big.1),
    )

pub great_alike : (q : BoundQuery) (rows others : List (List Value)) → Alike rows others → HasGreatSum q rows → HasGreatSum q others
great_alike q rows others alike (inl great) = inl (great_group q rows others alike great)
great_alike q rows others alike (inr great) = inr (great_partition q rows others alike great)

pub fails_the_same : (q : BoundQuery) → FailsTheSame q
fails_the_same q inputs others p great = great_alike q (kept q inputs) (kept q others) (kept_alike q inputs others p) great

pub prints_the_same : (q : BoundQuery) → PrintsTheSame q
prints_the_same q inputs others a b p x y = one_printed_list q.order q.limit (output q inputs) (output q others) a b (output_permuted q inputs others p) x y
