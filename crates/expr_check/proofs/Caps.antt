-- Counting up to a cap changes no answer.
use Rattle.std.proofs.Common.{◌≡◌, ℕ, ◌+◌, ◌*◌, ◌≤◌, ◌<◌, min, nat_le, arith, inl, inr, ap₂, ap, ◌∙◌}
use Rattle.std.proofs.lemmas.Bool.{cases_lt}
use Rattle.std.proofs.Math.Nat.{mul-le-mul_left, mul_comm}
use Rattle.sql_bound.specs.Bounds.{result_bound}
use Rattle.expr_check.specs.Capped.{capped}

pub capped_sum : (a b : ℕ) → capped (capped a + capped b) ≡ capped (a + b)
capped_sum a b = omega arith

pub capped_fits : (n : ℕ) → nat_le (capped n) result_bound ≡ nat_le n result_bound
capped_fits n = grind arith

-- a factor is not above a product whose other factor is not 0
le_product : (a b : ℕ) → 0 < b → a ≤ a * b
le_product a b some =
    let above : 1 ≤ b = omega arith in
    omega (arith, mul-le-mul_left a above)

small_product : (m a b : ℕ) → a ≤ m → b ≤ m → min (min a m * min b m) m ≡ min (a * b) m
small_product m a b p q =
    let e : min a m ≡ a = omega arith in
    let f : min b m ≡ b = omega arith in
    ap (λ (n : ℕ). min n m) (ap₂ (λ (x y : ℕ). x * y) e f)

great_product : (m a b : ℕ) → 0 < m → m < a → 0 < b → min (min a m * min b m) m ≡ min (a * b) m
great_product m a b some p q =
    let e : min a m ≡ m = omega arith in
    let f : 0 < min b m = omega arith in
    let g : m ≤ m * min b m = le_product m (min b m) f in
    let h : a ≤ a * b = le_product a b q in
    let i : min a m * min b m ≡ m * min b m = ap (λ (n : ℕ). n * min b m) e in
    omega arith

no_product : (m a b : ℕ) → b ≡ 0 → min (min a m * min b m) m ≡ min (a * b) m
no_product m a b e =
    let f : min b m ≡ 0 = omega arith in
    let g : min a m * min b m ≡ min a m * 0 = ap (λ (n : ℕ). min a m * n) f in
    let h : a * b ≡ a * 0 = ap (λ (n : ℕ). a * n) e in
    omega arith

left_product : (m a b : ℕ) → 0 < m → m < a → min (min a m * min b m) m ≡ min (a * b) m
left_product m a b some p =
    elim (cases_lt 0 b) [ inl q ↦ great_product m a b some p q | inr q ↦ no_product m a b (omega arith) ]

-- a product of numbers that are counted up to m, counted so itself
any_product : (m a b : ℕ) → 0 < m → min (min a m * min b m) m ≡ min (a * b) m
any_product m a b some =
    elim (cases_lt m a) [
      | inl p ↦ left_product m a b some p
      | inr p ↦
          elim (cases_lt m b) [
            | inl q ↦
                ap (λ (n : ℕ). min n m) (mul_comm (min a m) (min b m)) ∙ left_product m b a some q ∙ ap (λ (n : ℕ). min n m) (mul_comm b a)
            | inr q ↦ small_product m a b p q
          ]
    ]

pub capped_product : (a b : ℕ) → capped (capped a * capped b) ≡ capped (a * b)
capped_product a b = any_product 340282366920938463463374607431768211455 a b (omega arith)
