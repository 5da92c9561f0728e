-- Two codes as one number.
use Rattle.std.proofs.Common.{◌≡◌, ℕ, ◌+◌, ◌*◌, ◌<◌, ◌/◌, sym, ap, ◌∙◌, arith}
use Rattle.std.proofs.lemmas.Nat.{div-mul-add}
use Rattle.exec_group.specs.Codes.{Tells}

module _ (a b : ℕ → ℕ) (w : ℕ) (within : (p : ℕ) → b p < w) where
  pub tells_left : Tells (λ p. a p * w + b p) a
  tells_left p q same = sym (div-mul-add (a p) w (b p) (within p)) ∙ ap (λ (n : ℕ). n / w) same ∙ div-mul-add (a q) w (b q) (within q)

  pub tells_right : Tells (λ p. a p * w + b p) b
  tells_right p q same = let fronts : a p * w ≡ a q * w = ap (λ (n : ℕ). n * w) (tells_left p q same) in omega (arith, same, fronts)
