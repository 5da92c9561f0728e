-- The files of a container, by their numbers.
use Rattle.std.proofs.Common.{◌≡◌, ℕ, ◌+◌, ◌*◌, ◌<◌, Bool, true, false, arith, refl, sym, subst}
use Rattle.std.specs.Prelude.{nat_eq}
use Rattle.std.proofs.lemmas.Bool.Decides.{nat_tests}
use Rattle.common_laws.specs.Maps.{Contents}
use Rattle.catch_files.specs.Parting.{SameFile}

pub none_yet : (base : ℕ) (m n : Contents) (i : ℕ) → i < 0 → SameFile (4 * (base + i)) m n
none_yet base m n i lt = absurd (omega (arith, lt))

pub one_more : (base j : ℕ) (m n : Contents) → ((i : ℕ) → i < j → SameFile (4 * (base + i)) m n) → SameFile (4 * (base + j)) m n → (i : ℕ) → i < j + 1 → SameFile (4 * (base + i)) m n
one_more base j m n before here i lt = by (nat_eq i j) refl (λ (same : i ≡ j). subst (λ (k : ℕ). SameFile (4 * (base + k)) m n) (sym same) here)
  where
    by : (b : Bool) → nat_eq i j ≡ b → (i ≡ j → SameFile (4 * (base + i)) m n) → SameFile (4 * (base + i)) m n
    by true e at = at (grind (arith, nat_tests))
    by false e at = before i (grind (arith, nat_tests))
