-- What stands behind the end of a bound lies out of it.
use Rattle.std.proofs.Common.{◌≡◌, Bool, true, false, IsTrue, refl, sym, ap, ◌∙◌}
use Rattle.std.specs.Ordering.{is_le, is_lt, is_gt, ordering_reverse}
use Rattle.std.specs.declared.cmp.Ordering.{Ordering}
use Rattle.std.specs.declared.cmp.Ordering.TheVariants.{Less, Equal, Greater}
use Rattle.std.proofs.lemmas.Cmp.{upto}
use Rattle.col_value.specs.Laws.{value_total}
use Rattle.col_value.specs.Order.{value_cmp}
use Rattle.col_value.specs.declared.value.Value.{Value}

not_gt : (o : Ordering) → is_le o ≡ true → is_gt o ≡ false
not_gt Less e = refl
not_gt Equal e = refl
not_gt Greater e = absurd cc

turned_gt : (o : Ordering) → is_lt o ≡ true → is_gt (ordering_reverse o) ≡ true
turned_gt Less e = refl
turned_gt Equal e = absurd cc
turned_gt Greater e = absurd cc

-- what is up to a value that is less than another is not from the other on
pub stands_below : (low v high : Value) → is_lt (value_cmp low high) ≡ true → is_le (value_cmp v low) ≡ true → is_le (value_cmp high v) ≡ false
stands_below low v high less up = by (is_le (value_cmp high v)) refl
  where
    by : (b : Bool) → is_le (value_cmp high v) ≡ b → is_le (value_cmp high v) ≡ false
    by false is = is
    by true is =
        let far : is_gt (value_cmp high low) ≡ false = upto value_total high v low (not_gt (value_cmp high v) is) (not_gt (value_cmp v low) up) in
        let near : is_gt (value_cmp high low) ≡ true = ap is_gt (value_total.antisymm high low) ∙ turned_gt (value_cmp low high) less in
        absurd (cc)

-- what is from a value on that is greater than another is not up to the other
pub stands_above : (low v high : Value) → is_lt (value_cmp low high) ≡ true → is_le (value_cmp high v) ≡ true → is_le (value_cmp v low) ≡ false
stands_above low v high less from = by (is_le (value_cmp v low)) refl
  where
    by : (b : Bool) → is_le (value_cmp v low) ≡ b → is_le (value_cmp v low) ≡ false
    by false is = is
    by true is =
        let no_more : is_le (value_cmp high v) ≡ false = stands_below low v high less is in
        absurd (cc)

-- a test that answered so
pub told_lt : (found order : Ordering) (test : Bool) → found ≡ order → test ≡ is_lt found → IsTrue test → is_lt order ≡ true
told_lt found order test same is says = ap is_lt (sym same) ∙ sym is ∙ says
