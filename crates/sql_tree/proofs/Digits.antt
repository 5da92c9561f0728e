-- A number in decimal is that of its tenth, and its last digit.
use Rattle.std.proofs.Common.{◌≡◌, ℕ, ◌/◌, ◌%◌, ◌^◌, ◌<◌, ◌≤◌, ◌++◌, sym, ◌∙◌, ap, arith}
use Rattle.std.specs.Fmt.{decimal}
use Rattle.std.proofs.lemmas.Fmt.{decimal_step_wide, decimal_digit}

pub decimal_more : (n : ℕ) → 10 ≤ n → n < 2 ^ 128 → decimal n ≡ decimal (n / 10) ++ decimal (n % 10)
decimal_more n large fits =
    let below : n % 10 < 10 = omega arith in
    let wide : n < 10 ^ 64 = omega arith in
    decimal_step_wide n large wide ∙ ap (λ ds. decimal (n / 10) ++ ds) (sym (decimal_digit (n % 10) below))
