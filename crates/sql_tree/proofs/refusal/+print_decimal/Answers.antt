-- The number is its tenth and its last digit.
use Rattle.std.proofs.Common.{◌≡◌, ◌++◌, ◌<◌, ◌≤◌, ◌^◌, ◌/◌, ◌%◌, arith}
use Rattle.std.proofs.lemmas.Grind.{common_steps}
use Rattle.std.specs.Fmt.{decimal}
use Rattle.sql_tree.proofs.Digits.{decimal_more}
use Rattle.sql_tree.proofs.refusal.+print_decimal.Goals as goal

pub returns-clause-ok : goal.returns-clause-ok
returns-clause-ok t c =
    let large : 10 ≤ c.args.n = omega arith in
    let fits : c.args.n < 2 ^ 128 = omega arith in
    let e : decimal c.args.n ≡ decimal (c.args.n / 10) ++ decimal (c.args.n % 10) = decimal_more c.args.n large fits in
    grind (arith, common_steps, e)
