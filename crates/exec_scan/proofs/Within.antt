-- A value whose number or day lies before the first or behind the last lies out of a bound.
use Rattle.std.proofs.Common.{◌≡◌, ◌∙◌, ◌&&◌, Bool, true, refl, ◌-◌, ◌^◌, ◌<◌, ℕ, ℤ, pos, negsuc, ◌<ℤ◌, FitsSigned, w64, false, ap, sym, arith}
use Rattle.std.specs.Option.{option_map_or}
use Rattle.std.specs.Ordering.{is_le, int_cmp, nat_cmp}
use Rattle.std.proofs.lemmas.Bool.Decides.{nat_tests}
use Rattle.std.proofs.lemmas.Int.{ints}
use Rattle.block_codec.specs.Held.{day_value, number_value}
use Rattle.block_codec.proofs.Ordered.{day_cmp, lane_cmp}
use Rattle.col_value.specs.Order.{value_cmp}
use Rattle.col_value.specs.declared.value.Value.{Value}
use Rattle.row_bounds.specs.Bounds.{lies_in}
use Rattle.row_bounds.specs.declared.bound.Bound.{Bound}

above : (a b : ℤ) → b <ℤ a → is_le (int_cmp a b) ≡ false
above a b lt = grind (arith, ints)

pub out_below : (v : Value) (first n : ℤ) → FitsSigned w64 first → FitsSigned w64 n → number_value first ≡ v → n <ℤ first → is_le (value_cmp v (number_value n)) ≡ false
out_below v first n ff fn is lt = ap (λ (w : Value). is_le (value_cmp w (number_value n))) (sym is) ∙ ap is_le (lane_cmp first n ff fn) ∙ above first n lt

pub out_above : (v : Value) (last n : ℤ) → FitsSigned w64 last → FitsSigned w64 n → number_value last ≡ v → last <ℤ n → is_le (value_cmp (number_value n) v) ≡ false
out_above v last n fl fn is lt = ap (λ (w : Value). is_le (value_cmp (number_value n) w)) (sym is) ∙ ap is_le (lane_cmp n last fn fl) ∙ above n last lt

pub none_below : (n : ℤ) → FitsSigned w64 n → n <ℤ negsuc (2 ^ 63 - 1) → ⊥
none_below (pos n) fits lt = omega (arith, ints, lt)
none_below (negsuc n) fits lt = omega (arith, ints, fits.sfits, lt)

pub none_above : (n : ℤ) → FitsSigned w64 n → pos (2 ^ 63 - 1) <ℤ n → ⊥
none_above (pos n) fits lt = omega (arith, ints, fits.sfits, lt)
none_above (negsuc n) fits lt = omega (arith, ints, lt)

beyond : (a b : ℕ) → b < a → is_le (nat_cmp a b) ≡ false
beyond a b lt = grind (arith, nat_tests)

pub day_below : (v : Value) (first d : ℕ) → day_value first ≡ v → d < first → is_le (value_cmp v (day_value d)) ≡ false
day_below v first d is lt = ap (λ (w : Value). is_le (value_cmp w (day_value d))) (sym is) ∙ ap is_le (day_cmp first d) ∙ beyond first d lt

pub day_above : (v : Value) (last d : ℕ) → day_value last ≡ v → last < d → is_le (value_cmp (day_value d) v) ≡ false
day_above v last d is lt = ap (λ (w : Value). is_le (value_cmp (day_value d) w)) (sym is) ∙ ap is_le (day_cmp d last) ∙ beyond d last lt

pub lies_below : (b : Bound) (v : Value) → option_map_or (λ least. is_le (value_cmp least v)) b.least true ≡ false → lies_in b v ≡ false
lies_below b v h = ap (λ (t : Bool). t && option_map_or (λ greatest. is_le (value_cmp v greatest)) b.greatest true) h

pub lies_above : (b : Bound) (v : Value) → option_map_or (λ greatest. is_le (value_cmp v greatest)) b.greatest true ≡ false → lies_in b v ≡ false
lies_above b v h = by (option_map_or (λ least. is_le (value_cmp least v)) b.least true)
  where
    by : (t : Bool) → (t && option_map_or (λ greatest. is_le (value_cmp v greatest)) b.greatest true) ≡ false
    by true = h
    by false = refl
