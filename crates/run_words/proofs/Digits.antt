-- What plain digits are read as.
use Rattle.std.proofs.Common.{rules, arith, ◌≡◌, ℕ, ◌^◌, ◌<◌, length, true, List, [], ◌∷◌, None, Err, inl, inr}
use Rattle.std.specs.Str.{all_ascii_digits}
use Rattle.std.specs.Str.Parse.{ParsesUnsigned, digits_value}
use Rattle.std.proofs.lemmas.Bool.{cases_lt}
use Rattle.std.proofs.lemmas.Str.Parse.{numerals_by_value, parse_digits, tells_all_ascii_digits}
use Rattle.clap.proofs.WalkLemmas.{both}
use Rattle.run_words.specs.Words.{is_plain, number_in}

plain_digits : (word : List ℕ) → is_plain word ≡ true → (0 < length word) × (all_ascii_digits word ≡ true)
plain_digits [] h = absurd cc
plain_digits (b ∷ []) h = (omega arith, h)
plain_digits (b ∷ (c ∷ more)) h = (omega arith, (both (all_ascii_digits (b ∷ (c ∷ more))) _ h).0)

-- a number of plain digits that isn't read is greater than every number that fits
none_fits : (least most : ℕ) (word : List ℕ) → is_plain word ≡ true → most < 2 ^ 64 → ((0 < length word) × (digits_value 10 word < 2 ^ 64) → ⊥) → None ≡ number_in least most word
none_fits least most word plain fits never =
    elim (cases_lt most (digits_value 10 word)) [
      | inl great ↦ search rules
      | inr small ↦ absurd (never ((plain_digits word plain).0, omega (arith, small, fits)))
    ]

pub not_read : {E : Type 0} (e : E) (least most : ℕ) (word : List ℕ) → is_plain word ≡ true → most < 2 ^ 64 → ParsesUnsigned {E = E} 64 10 word (Err e) → None ≡ number_in least most word
not_read {E} e least most word plain fits given =
    none_fits least most word plain fits (parse_digits (numerals_by_value (λ ds. all_ascii_digits ds ≡ true) tells_all_ascii_digits) {E = E} 64 word (Err e) given (plain_digits word plain).1)
