-- Bounds as the code counts them.
use Rattle.std.specs.Prelude.{ℕ, min}

-- what passes 2^128 - 1 counts as that
abbrev pub capped : ℕ → ℕ
capped n = min n 340282366920938463463374607431768211455
