-- A primary by the parentheses that may still nest.
use Rattle.std.proofs.Common.{◌≡◌, ℕ, zero, suc, ◌-◌, ◌<◌, Bool, true, false, refl, arith}
use Rattle.sql_words.specs.declared.token.Sign.{Sign}
use Rattle.sql_phrases.specs.Readings.{choose}
use Rattle.sql_phrases.specs.Classes.{is_sign}
use Rattle.sql_phrases.specs.Readers.{inside, over, primary, grouped, base}
use Rattle.sql_expr.specs.Levels.{leaf_of}

pub base_flat : (g : Bool) (d : ℕ) → d ≡ 0 → base g d ≡ leaf_of g d
unfolding primary grouped
base_flat true zero e = refl
base_flat false zero e = refl
base_flat g (suc d) e = absurd (omega arith)

pub base_deep : (g : Bool) (d : ℕ) → 0 < d → base g d ≡ choose (is_sign Sign.Open) (inside (over (base g (d - 1)))) (leaf_of g d)
unfolding primary grouped
base_deep g zero h = absurd (omega arith)
base_deep true (suc d) h = let e : suc d - 1 ≡ d = omega arith in rw e
base_deep false (suc d) h = let e : suc d - 1 ≡ d = omega arith in rw e
