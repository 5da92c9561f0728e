-- The test of UTF-8 is its fact.
use Rattle.std.proofs.Common.{◌≡◌, ℕ, true, false, Bool, List, refl}
use Rattle.std.specs.Str.{IsUtf8, is_utf8}
use Rattle.std.proofs.lemmas.Str.{IsUtf8-from_is_utf8}

pub not_utf8 : (bs : List ℕ) → (IsUtf8 bs → ⊥) → false ≡ is_utf8 bs
not_utf8 bs bad =
    let split : (b : Bool) → is_utf8 bs ≡ b → false ≡ b = λ b e. elim b as (λ v. is_utf8 bs ≡ v → false ≡ v) [ true ↦ λ yes. absurd (bad (IsUtf8-from_is_utf8 bs yes)) | false ↦ λ off. refl ] e in
    split (is_utf8 bs) refl
