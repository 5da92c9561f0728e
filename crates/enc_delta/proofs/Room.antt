-- The groups of a number that are pushed one by one are ten at most.
use Rattle.std.proofs.Common.{◌≡◌, ℕ, zero, suc, ◌+◌, ◌/◌, ◌<◌, ◌≤◌, nat_lt, List, length, ap, sym, ◌∙◌, arith, inl, inr}
use Rattle.std.proofs.lemmas.Bool.{cases_Bool}
use Rattle.std.proofs.lemmas.List.{length-append}
use Rattle.col_bytes.specs.Spellings.{groups, vint}
use Rattle.col_bytes.proofs.Pushed.{Pushed}

few_groups : (most n : ℕ) → length (groups most n) ≤ most
unfolding groups
few_groups zero n = omega arith
few_groups (suc most) n =
    elim (cases_Bool (nat_lt n 128)) [
      | inl t ↦ rw t (omega arith)
      | inr f ↦ rw f (omega (arith, few_groups most (n / 128)))
    ]

some_group : (most n : ℕ) → 1 ≤ length (groups (suc most) n)
unfolding groups
some_group most n =
    elim (cases_Bool (nat_lt n 128)) [
      | inl t ↦ rw t (omega arith)
      | inr f ↦ rw f (omega arith)
    ]

-- behind what is pushed at least one more is to come
pub pushed_before : (old now : List ℕ) (n rest : ℕ) → Pushed old now n rest → length now < length old + 10
pushed_before old now n rest p =
    let k = p.others.0 in
    let here : length now ≡ length old + length p.front = ap length p.here ∙ length-append old p.front in
    let all : length p.front + length (groups (suc k) rest) ≡ length (vint n) = sym (length-append p.front (groups (suc k) rest)) ∙ ap length p.others.2 in
    omega (arith, here, all, some_group k rest, few_groups 10 n)
