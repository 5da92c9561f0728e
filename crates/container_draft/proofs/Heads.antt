-- Digits of a text so far.
use Rattle.std.proofs.Common.{◌≡◌, ℕ, zero, suc, ◌+◌, ◌*◌, ◌^◌, ◌-◌, ◌<◌, ◌≤◌, List, sym, ap, ap₂, subst, ◌∙◌, arith}
use Rattle.std.proofs.Math.Nat.{pow-succ'}
use Rattle.container_draft.specs.Ranks.{after, digit, head_from}

pub head_step : (i before : ℕ) (t : List ℕ) (d : ℕ) (u : List ℕ) → i < 7 → d ≡ digit t → u ≡ after t → head_from (7 - (i + 1)) (before * 256 + d) u ≡ head_from (7 - i) before t
head_step i before t d u lt first behind =
    let e : 7 - i ≡ suc (7 - (i + 1)) = omega (arith, lt) in
    ap₂ (λ (x : ℕ) (y : List ℕ). head_from (7 - (i + 1)) (before * 256 + x) y) first behind ∙ sym (ap (λ n. head_from n before t) e)

power : (i : ℕ) → 256 ^ (i + 1) ≡ 256 * 256 ^ i
power i = let e : i + 1 ≡ suc i = omega arith in ap (λ n. 256 ^ n) e ∙ pow-succ' 256 i

pub few_more : (i a d : ℕ) → a < 256 ^ i → d < 256 → a * 256 + d < 256 ^ (i + 1)
few_more i a d lt few = let is = power i in omega (arith, lt, few, is)

pub few_before : (i a : ℕ) → i < 7 → a < 256 ^ i → a < 2 ^ 48
few_before zero a lt h = omega (arith, h)
few_before (suc zero) a lt h = omega (arith, h)
few_before (suc (suc zero)) a lt h = omega (arith, h)
few_before (suc (suc (suc zero))) a lt h = omega (arith, h)
few_before (suc (suc (suc (suc zero)))) a lt h = omega (arith, h)
few_before (suc (suc (suc (suc (suc zero))))) a lt h = omega (arith, h)
few_before (suc (suc (suc (suc (suc (suc zero)))))) a lt h = omega (arith, h)
few_before (suc (suc (suc (suc (suc (suc (suc i))))))) a lt h = absurd (omega (arith, lt))

pub seven : (i a : ℕ) → i ≤ 7 → 7 ≤ i → a < 256 ^ i → a < 2 ^ 56
seven i a most least h = let is : i ≡ 7 = omega (arith, most, least) in subst (λ n. a < 256 ^ n) is h
