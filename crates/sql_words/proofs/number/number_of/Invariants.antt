use Rattle.std.proofs.Common.{◌≡◌, ◌<◌, ◌*◌, ◌+◌, ◌-◌, ◌^◌, drop, fold}
use Rattle.sql_words.proofs.number.number_of.Given as goal

abbrev pub invariant-loop-digit : goal.invariant-loop-digit
invariant-loop-digit l = (fold (λ n d. 10 * n + (d - 48)) l.value (drop l.digit-index l.digits) ≡ fold (λ n d. 10 * n + (d - 48)) 0 l.digits) × (l.value < 2 ^ 127)
