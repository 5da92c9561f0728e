-- Numbers of a fixed width.
use Rattle.std.proofs.Common.{◌≡◌, ℕ, ℤ, ◌^◌, ◌<◌, ◌≤◌, ltb, List, ◌++◌, length, take, drop, Some, refl, sym, ap, subst, ◌∙◌, arith, Fits}
use Rattle.std.specs.Prelude.{FitsSigned}
use Rattle.std.specs.Int.{w32, w64, from_be_bytes, to_be_bytes, cast_signed, cast_unsigned}
use Rattle.std.proofs.lemmas.Bool.{ltb-false}
use Rattle.std.proofs.lemmas.List.{take-append-drop, length-take}
use Rattle.std.proofs.lemmas.Nat.{be_bytes_4, be_bytes_8, from_be_bytes-to_be_bytes_4, from_be_bytes-to_be_bytes_8}
use Rattle.std.proofs.lemmas.Int.{of_z-to_z, to_z-of_z}
use Rattle.std.proofs.Math.Facts.{sfits_to_z, Fits-of_z}
use Rattle.col_bytes.specs.Spellings.{be4, be8}
use Rattle.col_bytes.specs.Fronts.{be4_at, be8_at}
use Rattle.col_bytes.proofs.Codecs.{IsBytes, IsBytes-take, IsBytes-drop, Takes, IsCodec, let_through, enough}

front : (k : ℕ) (bytes : List ℕ) → IsBytes bytes → Takes bytes (take k bytes) (drop k bytes)
front k bytes fits = record { parts = sym (take-append-drop k bytes); rest_fits = IsBytes-drop k bytes fits }

be4_takes : (bytes : List ℕ) (x : ℕ × List ℕ) → IsBytes bytes → be4_at bytes ≡ Some x → Takes bytes (be4 x.0) x.1 × (x.0 < 2 ^ 32)
be4_takes bytes x fits e =
    let g = let_through (ltb (length bytes) 4) (from_be_bytes w32 (take 4 bytes), drop 4 bytes) x e in
    let long : 4 ≤ length bytes = ltb-false _ _ g.0 in
    let are = IsBytes-take 4 bytes fits in
    let spelled : be4 (from_be_bytes w32 (take 4 bytes)) ≡ take 4 bytes = be_bytes_4 (take 4 bytes) _ (omega (arith, length-take 4 bytes)) are refl in
    let small : from_be_bytes w32 (take 4 bytes) < 2 ^ 32 = omega (arith, are 0, are 1, are 2, are 3) in
    subst (λ (y : ℕ × List ℕ). Takes bytes (be4 y.0) y.1 × (y.0 < 2 ^ 32)) g.1 (subst (λ (t : List ℕ). Takes bytes t (drop 4 bytes)) (sym spelled) (front 4 bytes fits), small)

be4_again : (n : ℕ) (rest : List ℕ) → n < 2 ^ 32 → be4_at (be4 n ++ rest) ≡ Some (n, rest)
be4_again n rest lt =
    enough 4 (be4 n) rest (from_be_bytes w32) refl ∙ ap (λ (m : ℕ). Some (m, rest)) (from_be_bytes-to_be_bytes_4 n lt)

pub be4_codec : IsCodec be4 (λ n. n < 2 ^ 32) be4_at
be4_codec = record { takes = be4_takes; again = be4_again }

be8_takes : (bytes : List ℕ) (x : ℤ × List ℕ) → IsBytes bytes → be8_at bytes ≡ Some x → Takes bytes (be8 x.0) x.1 × FitsSigned w64 x.0
be8_takes bytes x fits e =
    let g = let_through (ltb (length bytes) 8) (cast_signed w64 (from_be_bytes w64 (take 8 bytes)), drop 8 bytes) x e in
    let long : 8 ≤ length bytes = ltb-false _ _ g.0 in
    let are = IsBytes-take 8 bytes fits in
    let small : from_be_bytes w64 (take 8 bytes) < 2 ^ 64 = omega (arith, are 0, are 1, are 2, are 3, are 4, are 5, are 6, are 7) in
    let bits : Fits w64 (from_be_bytes w64 (take 8 bytes)) = record { fits = small } in
    let back : to_be_bytes w64 (from_be_bytes w64 (take 8 bytes)) ≡ take 8 bytes = be_bytes_8 (take 8 bytes) _ (omega (arith, length-take 8 bytes)) are refl in
    let spelled : be8 (cast_signed w64 (from_be_bytes w64 (take 8 bytes))) ≡ take 8 bytes = ap (to_be_bytes w64) (of_z-to_z w64 (from_be_bytes w64 (take 8 bytes)) small) ∙ back in
    subst (λ (y : ℤ × List ℕ). Takes bytes (be8 y.0) y.1 × FitsSigned w64 y.0) g.1 (subst (λ (t : List ℕ). Takes bytes t (drop 8 bytes)) (sym spelled) (front 8 bytes fits), sfits_to_z bits)

be8_again : (n : ℤ) (rest : List ℕ) → FitsSigned w64 n → be8_at (be8 n ++ rest) ≡ Some (n, rest)
be8_again n rest fit =
    let bits : Fits w64 (cast_unsigned w64 n) = Fits-of_z fit in
    let back : cast_signed w64 (from_be_bytes w64 (be8 n)) ≡ n = ap (cast_signed w64) (from_be_bytes-to_be_bytes_8 (cast_unsigned w64 n) (omega arith)) ∙ to_z-of_z w64 n fit in
    enough 8 (be8 n) rest (λ (b : List ℕ). cast_signed w64 (from_be_bytes w64 b)) refl ∙ ap (λ (m : ℤ). Some (m, rest)) back

pub be8_codec : IsCodec be8 (FitsSigned w64) be8_at
be8_codec = record { takes = be8_takes; again = be8_again }
