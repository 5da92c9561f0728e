-- The orders by which a window looks at tuples.
use Rattle.std.proofs.Common.{◌≡◌, ℕ, Bool, true, false, List, [], ◌∷◌, refl, sym, ap, ◌∙◌}
use Rattle.std.proofs.lemmas.Cmp.{nat_cmp_total, on_total, then_total, tied_itself}
use Rattle.std.specs.Cmp.{IsTotalOrder}
use Rattle.std.specs.Ordering.{on, ordering_reverse}
use Rattle.std.specs.List.{slice_index_or}
use Rattle.std.specs.declared.cmp.Ordering.{Ordering}
use Rattle.col_value.specs.Laws.{row_total, value_total}
use Rattle.col_value.specs.Order.{value_cmp}
use Rattle.col_value.specs.declared.value.Value.{Value}
use Rattle.col_value.specs.declared.value.Value.TheVariants as value
use Rattle.sql_bound.specs.declared.query.BoundWindow.{BoundWindow}
use Rattle.sql_bound.specs.Outputs.{number_cmp, window_cmp, window_key_cmp}

-- where all tie
tied_total : {X : Type 0} → IsTotalOrder (λ (a b : X). Ordering.Equal)
tied_total = record { antisymm = λ x y. refl; trans = λ x y z a b. a; congr = λ x y z e. refl }

abbrev column : ℕ → List Value → Value
column c row = slice_index_or row c value.Null

reversed_total : {X : Type 0} (r : X → X → Ordering) → IsTotalOrder r → IsTotalOrder (λ a b. ordering_reverse (r a b))
reversed_total r o = record {
  antisymm = λ x y. ap ordering_reverse (o.antisymm x y);
  trans = λ x y z a b.
      let first : r y x ≡ Ordering.Less = o.antisymm y x ∙ a in
      let second : r z y ≡ Ordering.Less = o.antisymm z y ∙ b in
      sym (o.antisymm z x) ∙ o.trans z y x second first;
  congr = λ x y z e. ap ordering_reverse (o.congr x y z (unturned (r x y) e));
}
  where
    unturned : (t : Ordering) → ordering_reverse t ≡ Ordering.Equal → t ≡ Ordering.Equal
    unturned Ordering.Less e = cc
    unturned Ordering.Equal e = refl
    unturned Ordering.Greater e = cc

key_total : (key : ℕ × Bool) → IsTotalOrder (window_key_cmp key)
key_total (c, true) = reversed_total (on (column c) value_cmp) (on_total (column c) value_total)
key_total (c, false) = on_total (column c) value_total

pub window_total : (keys : List (ℕ × Bool)) → IsTotalOrder (window_cmp keys)
window_total [] = tied_total
window_total (key ∷ keys) = then_total (key_total key) (window_total keys)

pub number_total : (w : BoundWindow) → IsTotalOrder (number_cmp w)
number_total w = then_total (on_total (λ (t : ℕ × List Value). t.1) (window_total w.order)) (then_total (on_total (λ (t : ℕ × List Value). t.1) row_total) (on_total (λ (t : ℕ × List Value). t.0) nat_cmp_total))

pub window_itself : (keys : List (ℕ × Bool)) (row : List Value) → window_cmp keys row row ≡ Ordering.Equal
window_itself keys row = tied_itself (window_total keys) row
