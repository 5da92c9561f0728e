-- Which scripts are within the limits.
use Rattle.std.proofs.Common.{ℕ, ◌≡◌, ◌∙◌, ◌≤◌, ◌<◌, Bool, true, false, List, length, refl, ap}
use Rattle.std.proofs.lemmas.Bool.{le-leb, lt-leb}
use Rattle.std.specs.Prelude.{◌&&◌, nat_le, if◌then◌else◌, Some}
use Rattle.sql_words.specs.Texts.{statement_texts}
use Rattle.db_model.specs.Run.{Setting}
use Rattle.vert_cli.specs.Asked.{large, statements, is_within_limits, asked_by}

pub within_limits : (script : List ℕ) → length script ≤ 67108864 → length (statement_texts script) ≤ 4096 → is_within_limits script ≡ true
unfolding is_within_limits
within_limits script bytes few = ap (λ (b : Bool). b && nat_le (length (statement_texts script)) 4096) (le-leb (length script) 67108864 bytes) ∙ le-leb (length (statement_texts script)) 4096 few

pub over_bytes : (script : List ℕ) → 67108864 < length script → is_within_limits script ≡ false
unfolding is_within_limits
over_bytes script over = ap (λ (b : Bool). b && nat_le (length (statement_texts script)) 4096) (lt-leb (length script) 67108864 over)

pub over_many : (script : List ℕ) → 4096 < length (statement_texts script) → is_within_limits script ≡ false
unfolding is_within_limits
over_many script over = by (nat_le (length script) 67108864)
  where
    by : (b : Bool) → (b && nat_le (length (statement_texts script)) 4096) ≡ false
    by true = lt-leb (length (statement_texts script)) 4096 over
    by false = refl

pub over_limits : (setting : Setting) (script : List ℕ) → is_within_limits script ≡ false → asked_by setting (Some script) ≡ large
over_limits setting script is = ap (λ (b : Bool). if b then statements setting (statement_texts script) else large) is

pub in_limits : (setting : Setting) (script : List ℕ) → is_within_limits script ≡ true → asked_by setting (Some script) ≡ statements setting (statement_texts script)
in_limits setting script is = ap (λ (b : Bool). if b then statements setting (statement_texts script) else large) is
