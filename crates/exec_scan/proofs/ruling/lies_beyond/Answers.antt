use Rattle.std.proofs.Common.{◌<◌, ◌^◌, arith}
use Rattle.std.proofs.lemmas.Bool.Decides.{nat_tests}
use Rattle.block_codec.specs.Held.{day_value}
use Rattle.exec_scan.proofs.Within.{lies_above, lies_below}
use Rattle.exec_scan.proofs.ruling.lies_beyond.Goals as goal

pub returns-then-d-first : goal.returns-then-d-first
returns-then-d-first c = λ says. lies_below c.args.bound.now (day_value c.args.d) (c.requires.first c.args.d c.if-d-first.true)

pub returns-else-d-first : goal.returns-else-d-first
returns-else-d-first c = λ says.
    let room : c.args.d < 2 ^ 32 = omega (arith, c.ranges.d.fits) in
    let lt : c.args.last < c.args.d = grind (arith, nat_tests) in
    lies_above c.args.bound.now (day_value c.args.d) (c.requires.last c.args.d room lt)
