-- Codecs that are put together of others.
use Rattle.std.proofs.Common.{◌≡◌, ℕ, zero, suc, List, [], ◌∷◌, ◌++◌, length, Option, Some, None, refl, sym, ap, subst, ◌∙◌, append_assoc, arith}
use Rattle.std.specs.Prelude.{option_map}
use Rattle.std.specs.List.{AllByRecursion, flat_map}
use Rattle.std.proofs.lemmas.Option.{option_and_then_some}
use Rattle.col_bytes.specs.Spellings.{vint, counted, FitsList}
use Rattle.col_bytes.specs.Fronts.{vint_at}
use Rattle.col_bytes.proofs.Codecs.{IsBytes, Takes, Takes-then, IsCodec, some_is}
use Rattle.col_bytes.proofs.Vints.{vint_codec}
use Rattle.col_bytes.specs.Parts.{both, made, many, counted_at}

pub map_some : {A B : Type 0} (f : A → B) (o : Option A) (y : B) → option_map f o ≡ Some y → (x : A) × (o ≡ Some x) × (f x ≡ y)
map_some f None y e = absurd cc
map_some f (Some x) y e = (x, refl, some_is (f x) y e)

pub both_codec : {A B : Type 0} (sa : A → List ℕ) (fa : A → Type 0) (ra : List ℕ → Option (A × List ℕ)) (sb : B → List ℕ) (fb : B → Type 0) (rb : List ℕ → Option (B × List ℕ))
    → IsCodec sa fa ra → IsCodec sb fb rb → IsCodec {A = A × B} (λ x. sa x.0 ++ sb x.1) (λ x. fa x.0 × fb x.1) (both ra rb)
both_codec {A} {B} sa fa ra sb fb rb ca cb = record {
  takes = λ bytes x fits e. option_and_then_some (λ (a : A × List ℕ). option_map (λ (y : B × List ℕ). ((a.0, y.0), y.1)) (rb a.1)) (ra bytes) x e
      (λ a is h.
      let m = map_some (λ (y : B × List ℕ). ((a.0, y.0), y.1)) (rb a.1) x h in
      let first = ca.takes bytes a fits is in
      let second = cb.takes a.1 m.0 first.0.rest_fits m.1 in
      let whole = Takes-then bytes (sa a.0) a.1 (sb m.0.0) m.0.1 first.0 second.0 in
      subst (λ (z : (A × B) × List ℕ). Takes bytes (sa z.0.0 ++ sb z.0.1) z.1 × (fa z.0.0 × fb z.0.1)) m.2 (whole, (first.1, second.1)));
  again = λ x rest fit. ap (both ra rb) (append_assoc (sa x.0) (sb x.1) rest) ∙ rw (ca.again x.0 (sb x.1 ++ rest) fit.0, cb.again x.1 rest fit.1) refl;
}

pub made_codec : {A B : Type 0} (to : A → B) (from : B → A) → ((b : B) → to (from b) ≡ b) → ((a : A) → from (to a) ≡ a) → (sa : A → List ℕ) (fa : A → Type 0) (ra : List ℕ → Option (A × List ℕ))
    → IsCodec sa fa ra → IsCodec (λ b. sa (from b)) (λ b. fa (from b)) (made to ra)
made_codec {A} {B} to from there back sa fa ra ca = record {
  takes = λ bytes x fits e.
      let m = map_some (λ (y : A × List ℕ). (to y.0, y.1)) (ra bytes) x e in
      let t = ca.takes bytes m.0 fits m.1 in
      subst (λ (z : B × List ℕ). Takes bytes (sa (from z.0)) z.1 × fa (from z.0)) m.2 (subst (λ (a : A). Takes bytes (sa a) m.0.1 × fa a) (sym (back m.0.0)) t);
  again = λ b rest fit. rw (ca.again (from b) rest fit) (ap (λ (c : B). Some (c, rest)) (there b));
}

pub many_takes : {A : Type 0} (sa : A → List ℕ) (fa : A → Type 0) (ra : List ℕ → Option (A × List ℕ)) → IsCodec sa fa ra → (n : ℕ) (bytes : List ℕ) (x : List A × List ℕ) → IsBytes bytes
    → many ra n bytes ≡ Some x → Takes bytes (flat_map sa x.0) x.1 × (length x.0 ≡ n) × AllByRecursion fa x.0
unfolding many
many_takes {A} sa fa ra ca zero bytes x fits e =
    subst (λ (y : List A × List ℕ). Takes bytes (flat_map sa y.0) y.1 × (length y.0 ≡ 0) × AllByRecursion fa y.0) (some_is ([], bytes) x e) (record { parts = refl; rest_fits = fits }, refl, tt)
many_takes {A} sa fa ra ca (suc n) bytes x fits e =
    option_and_then_some (λ (a : A × List ℕ). option_map (λ (y : List A × List ℕ). (a.0 ∷ y.0, y.1)) (many ra n a.1)) (ra bytes) x e
    (λ a is h.
    let m = map_some (λ (y : List A × List ℕ). (a.0 ∷ y.0, y.1)) (many ra n a.1) x h in
    let first = ca.takes bytes a fits is in
    let second = many_takes sa fa ra ca n a.1 m.0 first.0.rest_fits m.1 in
    let whole = Takes-then bytes (sa a.0) a.1 (flat_map sa m.0.0) m.0.1 first.0 second.0 in
    subst (λ (z : List A × List ℕ). Takes bytes (flat_map sa z.0) z.1 × (length z.0 ≡ suc n) × AllByRecursion fa z.0) m.2 (whole, ap suc second.1, (first.1, second.2)))

pub many_again : {A : Type 0} (sa : A → List ℕ) (fa : A → Type 0) (ra : List ℕ → Option (A × List ℕ)) → IsCodec sa fa ra → (xs : List A) (rest : List ℕ) → AllByRecursion fa xs
    → many ra (length xs) (flat_map sa xs ++ rest) ≡ Some (xs, rest)
unfolding many
many_again sa fa ra ca [] rest fits = refl
many_again sa fa ra ca (x ∷ xs) rest fits =
    ap (many ra (suc (length xs))) (append_assoc (sa x) (flat_map sa xs) rest) ∙ rw (ca.again x (flat_map sa xs ++ rest) fits.0, many_again sa fa ra ca xs rest fits.1) refl

pub counted_codec : {A : Type 0} (sa : A → List ℕ) (fa : A → Type 0) (ra : List ℕ → Option (A × List ℕ)) → IsCodec sa fa ra → IsCodec (counted sa) (FitsList fa) (counted_at ra)
counted_codec {A} sa fa ra ca = record {
  takes = λ bytes x fits e. option_and_then_some (λ (n : ℕ × List ℕ). many ra n.0 n.1) (vint_at bytes) x e
      (λ n is h.
      let first = vint_codec.takes bytes n fits is in
      let second = many_takes sa fa ra ca n.0 n.1 x first.0.rest_fits h in
      let whole = Takes-then bytes (vint n.0) n.1 (flat_map sa x.0) x.1 first.0 second.0 in
      (subst (λ (k : ℕ). Takes bytes (vint k ++ flat_map sa x.0) x.1) (sym second.1) whole, (omega (arith, first.1, second.1), second.2)));
  again = λ xs rest fit. ap (counted_at ra) (append_assoc (vint (length xs)) (flat_map sa xs) rest) ∙ rw (vint_codec.again (length xs) (flat_map sa xs ++ rest) fit.0) (many_again sa fa ra ca xs rest fit.1);
}
