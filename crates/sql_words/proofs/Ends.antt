-- How the ends of a script's texts go on.
use Rattle.std.proofs.Common.{◌≡◌, ◌≢◌, ℕ, zero, suc, pred, ◌+◌, ◌≤◌, ◌<◌, List, [], ◌∷◌, length, drop, arith, refl, ap, sym, ◌∙◌, slice_index, nat_eq, false, subst}
use Rattle.std.proofs.lemmas.Bool.{ne_eqb}
use Rattle.std.proofs.lemmas.List.{drop-drop}
use Rattle.std.proofs.lemmas.Bool.Decides.{nat_tests}
use Rattle.sql_words.specs.Texts.{part_size, ends_behind}

-- the bytes that a part takes are passed over
pub ends_passed : (skip at : ℕ) (script : List ℕ) → skip ≤ length script → ends_behind skip at script ≡ ends_behind 0 (at + skip) (drop skip script)
ends_passed zero at script within = let e : at + 0 ≡ at = omega arith in rw e refl
ends_passed (suc skip) at [] within = absurd (omega arith)
ends_passed (suc skip) at (b ∷ rest) within =
    let e : at + suc skip ≡ at + 1 + skip = omega arith in
    rw e (ends_passed skip (at + 1) rest (omega arith))

-- the same for a part of some bytes, of which the first is there
pub ends_passed_one : (size at : ℕ) (b : ℕ) (rest : List ℕ) → 0 < size → size ≤ length (b ∷ rest) → ends_behind (pred size) (at + 1) rest ≡ ends_behind 0 (at + size) (drop size (b ∷ rest))
ends_passed_one zero at b rest some within = absurd (omega arith)
ends_passed_one (suc size) at b rest some within =
    let e : at + suc size ≡ at + 1 + size = omega arith in
    rw e (ends_passed size (at + 1) rest (omega arith))

-- a part that is no `;` ends no text
pub behind_part : (at : ℕ) (script : List ℕ) → slice_index script 0 ≢ 59 → 0 < part_size script → part_size script ≤ length script → ends_behind 0 at script ≡ ends_behind 0 (at + part_size script) (drop (part_size script) script)
behind_part at [] other some within = absurd (omega arith)
behind_part at (b ∷ rest) other some within =
    let test : nat_eq b 59 ≡ false = ne_eqb b 59 other in
    rw test (ends_passed_one (part_size (b ∷ rest)) at b rest some within)

-- a `;` ends one
pub behind_end : (at : ℕ) (script : List ℕ) → 0 < length script → slice_index script 0 ≡ 59 → ends_behind 0 at script ≡ at ∷ ends_behind 0 (at + 1) (drop 1 script)
behind_end at [] some there = absurd (omega arith)
behind_end at (b ∷ rest) some there = grind (arith, nat_tests)

-- the same for the part that a caller was given, at a place of a script
pub part_goes : (script front : List ℕ) (at size : ℕ) → front ≡ drop at script → slice_index front 0 ≢ 59 → size ≡ part_size front → 0 < size → size ≤ length front → ends_behind 0 at (drop at script) ≡ ends_behind 0 (at + size) (drop (at + size) script)
part_goes script front at size is_front other is_size some within =
    let P : ℕ → Type 0 = λ n. 0 < n → n ≤ length front → ends_behind 0 at front ≡ ends_behind 0 (at + n) (drop n front) in
    let there : P (part_size front) = λ s w. behind_part at front other s w in
    let here : P size = subst P (sym is_size) there in
    let Q : List ℕ → Type 0 = λ f. ends_behind 0 at f ≡ ends_behind 0 (at + size) (drop size f) in
    let at_place : Q (drop at script) = subst Q is_front (here some within) in
    at_place ∙ ap (λ (rest : List ℕ). ends_behind 0 (at + size) rest) (drop-drop size at script)
