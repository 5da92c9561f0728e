-- The printed order is total and only equal rows tie, so the same rows have one printed list.
use Rattle.std.proofs.Common.{◌≡◌, ℕ, Bool, true, false, List, [], ◌∷◌, slice_index_or, Option, sym, ap, ◌∙◌}
use Rattle.std.proofs.lemmas.Cmp.{on_total, back_total, then_total}
use Rattle.std.proofs.lemmas.List.Sorted.{IsPermutation-trans, IsPermutation-sym}
use Rattle.std.specs.Cmp.{IsTotalOrder}
use Rattle.std.specs.FinMap.{IsAntisymmetric}
use Rattle.std.specs.Ordering.{flip_args, ordering_reverse, ordering_then}
use Rattle.std.specs.declared.cmp.Ordering.{Ordering}
use Rattle.std.specs.declared.cmp.Ordering.TheVariants.{Less, Equal, Greater}
use Rattle.col_value.proofs.Listed.{one_listing}
use Rattle.col_value.specs.Laws.{wide_total, wide_row_total, wide_row_exact}
use Rattle.col_value.specs.Order.{wide_cmp}
use Rattle.col_value.specs.declared.wide.Wide.{Wide}
use Rattle.col_value.specs.declared.wide.Wide.TheVariants.{Null}
use Rattle.sql_bound.specs.Printed.{key_cmp, printed_cmp, limited}
use Rattle.query_order.specs.OneList.{HasOnePrintedList}

alike_total : {K : Type 0} (R S : K → K → Ordering) → ((x y : K) → S x y ≡ R x y) → IsTotalOrder R → IsTotalOrder S
alike_total R S same o = record {
  antisymm = λ x y. same x y ∙ o.antisymm x y ∙ ap ordering_reverse (sym (same y x));
  trans = λ x y z a b. same x z ∙ o.trans x y z (sym (same x y) ∙ a) (sym (same y z) ∙ b);
  congr = λ x y z a. same x z ∙ o.congr x y z (sym (same x y) ∙ a) ∙ sym (same y z);
}

column_cmp : ℕ → List Wide → List Wide → Ordering
column_cmp column a b = wide_cmp (slice_index_or a column Null) (slice_index_or b column Null)

column_total : (column : ℕ) → IsTotalOrder (column_cmp column)
unfolding column_cmp
column_total column = on_total (λ (a : List Wide). slice_index_or a column Null) wide_total

key_total : (key : ℕ × Bool) → IsTotalOrder (key_cmp key)
unfolding column_cmp
key_total (column, false) = column_total column
key_total (column, true) = alike_total (flip_args (column_cmp column)) (key_cmp (column, true)) (λ a b. sym ((column_total column).antisymm b a)) (back_total (column_total column))

pub printed_total : (order : List (ℕ × Bool)) → IsTotalOrder (printed_cmp order)
printed_total [] = wide_row_total
printed_total (key ∷ order) = then_total (key_total key) (printed_total order)

-- a chain of two orders ties where both tie
second_tie : (a b : Ordering) → ordering_then a b ≡ Equal → b ≡ Equal
second_tie Less b e = cc
second_tie Equal b e = e
second_tie Greater b e = cc

pub printed_exact : (order : List (ℕ × Bool)) → IsAntisymmetric (printed_cmp order)
printed_exact [] a b e = wide_row_exact a b e
printed_exact (key ∷ order) a b e = printed_exact order a b (second_tie (key_cmp key a b) (printed_cmp order a b) e)

pub one_printed_list : (order : List (ℕ × Bool)) (limit : Option ℕ) → HasOnePrintedList order limit
one_printed_list order limit rows other a b same pa pb =
    let one : pa.sorted ≡ pb.sorted = one_listing (printed_total order) (printed_exact order) pa.sorted pb.sorted
    (IsPermutation-trans _ _ _ (IsPermutation-sym _ _ pa.same) (IsPermutation-trans _ _ _ same pb.same)) pa.ascending pb.ascending in
    pa.front ∙ ap (limited limit) one ∙ sym pb.front
