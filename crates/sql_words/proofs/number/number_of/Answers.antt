use Rattle.std.proofs.Common.{arith}
use Rattle.sql_words.proofs.Numbers.{next_digit, too_great}
use Rattle.sql_words.proofs.number.number_of.Goals as goal

pub returns-then-value-gt-TENTH-clause-number : goal.returns-then-value-gt-TENTH-clause-number
returns-then-value-gt-TENTH-clause-number c = too_great c.args.digits.now (omega (arith, next_digit c.loop-digit.value c.args.digits.now c.loop-digit.digit-index c.loop-digit-test.true))

pub returns-then-value-gt-GREATEST-clause-number : goal.returns-then-value-gt-GREATEST-clause-number
returns-then-value-gt-GREATEST-clause-number c = too_great c.args.digits.now (omega (arith, next_digit c.loop-digit.value c.args.digits.now c.loop-digit.digit-index c.loop-digit-test.true))
