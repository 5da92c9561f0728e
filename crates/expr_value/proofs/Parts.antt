-- A row behind NULLs.
use Rattle.std.proofs.Common.{◌≡◌, ℕ, zero, suc, ◌+◌, ◌-◌, ◌<◌, ◌≤◌, List, ◌∷◌, get_or, refl, ap, ◌∙◌, arith}
use Rattle.std.proofs.lemmas.List.Elements.{All-cons}
use Rattle.col_value.specs.Order.{IsRow, IsValue}
use Rattle.col_value.specs.declared.value.Value.{Value}
use Rattle.col_value.specs.declared.value.Value.TheVariants as value
use Rattle.expr_value.specs.Parts.{behind_nulls}

pub null_before : (first : ℕ) (row : List Value) (i : ℕ) → i < first → get_or (behind_nulls first row) i value.Null ≡ value.Null
null_before zero row i h = absurd (omega arith)
null_before (suc n) row zero h = refl
null_before (suc n) row (suc i) h = null_before n row i (omega arith)

pub value_behind : (first : ℕ) (row : List Value) (i : ℕ) → get_or (behind_nulls first row) (first + i) value.Null ≡ get_or row i value.Null
value_behind zero row i = let e : 0 + i ≡ i = omega arith in ap (λ (n : ℕ). get_or row n value.Null) e
value_behind (suc n) row i = let e : suc n + i ≡ suc (n + i) = omega arith in ap (λ (k : ℕ). get_or (value.Null ∷ behind_nulls n row) k value.Null) e ∙ value_behind n row i

pub value_past : (first : ℕ) (row : List Value) (i : ℕ) → first ≤ i → get_or (behind_nulls first row) i value.Null ≡ get_or row (i - first) value.Null
value_past first row i h = let e : i ≡ first + (i - first) = omega arith in ap (λ (n : ℕ). get_or (behind_nulls first row) n value.Null) e ∙ value_behind first row (i - first)

-- it is a row of values where the row is
pub part_is_row : (first : ℕ) (row : List Value) → IsValue value.Null → IsRow row → IsRow (behind_nulls first row)
part_is_row zero row null is = is
part_is_row (suc n) row null is = All-cons IsValue value.Null (behind_nulls n row) null (part_is_row n row null is)
