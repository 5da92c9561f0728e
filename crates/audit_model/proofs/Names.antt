-- Names that stand once.
use Rattle.std.proofs.Common.{◌≡◌, ◌≢◌, ℕ, List, [], ◌∷◌, Bool, true, false, refl, arith}
use Rattle.std.specs.Prelude.{bytes_eq}
use Rattle.std.specs.List.{AllPairs}
use Rattle.std.proofs.lemmas.List.Elements.{All-weaker}
use Rattle.std.proofs.lemmas.List.Kept.{AllPairs-cons}
use Rattle.std.proofs.lemmas.Slice.Eq.{bytes_eq-Decides}
use Rattle.catalog_types.specs.Lists.{Pairwise}

other_name : (a b : List ℕ) → a ≢ b → bytes_eq a b ≡ false
other_name a b differ = by (bytes_eq a b) refl
  where
    by : (r : Bool) → bytes_eq a b ≡ r → r ≡ false
    by true is = absurd (differ ((bytes_eq-Decides a b).0 is))
    by false is = refl

pub told_apart : (names : List (List ℕ)) → Pairwise ◌≢◌ names → AllPairs (λ m n. bytes_eq m n ≡ false) names
told_apart [] once = λ i j d before lt. absurd (omega (arith, lt, before))
told_apart (n ∷ names) once =
    AllPairs-cons (λ a b. bytes_eq a b ≡ false) n names (All-weaker (λ x. n ≢ x) (λ x. bytes_eq n x ≡ false) (λ x. other_name n x) names once.0) (told_apart names once.1)
