use Rattle.std.proofs.Common.{rules, ◌≡◌, ◌+◌, ◌-◌, ◌/◌, arith, of_z, to_z, w64, subst}
use Rattle.row_keys.specs.Numbers.{number_at}
use Rattle.std.proofs.lemmas.Int.{to_z-of_z}
use Rattle.exec_group.specs.Rising.{IsSought}
use Rattle.exec_group.proofs.Rising.{found_there, high_down, low_up, nowhere}
use Rattle.exec_group.proofs.met_numbers.sought.Goals as goal

pub returns-then-stands_at : goal.returns-then-stands_at
returns-then-stands_at c =
    let middle = c.loop-low.low + (c.loop-low.high - c.loop-low.low) / 2 in
    let here : number_at c.args.numbers.now middle ≡ c.args.n = search rules in
    found_there c.args.n c.args.numbers.now c.requires middle (search (rules, arith)) here

pub loop-low-preserved-then-not-is_less_at : goal.loop-low-preserved-then-not-is_less_at
loop-low-preserved-then-not-is_less_at c =
    let n = to_z w64 (of_z w64 c.args.n) in
    let low = c.loop-low.low in
    let high = c.loop-low.high in
    let middle = low + (high - low) / 2 in
    high_down n c.args.numbers.now c.requires low high middle (search rules) (search (rules, arith)) (search (rules, arith)) (c.is_less_at.ensures.others (search rules)) (c.stands_at.ensures.other (search rules))

pub loop-low-preserved : goal.loop-low-preserved
loop-low-preserved c =
    let n = to_z w64 (of_z w64 c.args.n) in
    let low = c.loop-low.low in
    let high = c.loop-low.high in
    let middle = low + (high - low) / 2 in
    low_up n c.args.numbers.now c.requires low high middle (search rules) (search (rules, arith)) (c.is_less_at.ensures.less (search rules))

pub returns : goal.returns
returns c =
    let back : to_z w64 (of_z w64 c.args.n) ≡ c.args.n = to_z-of_z w64 c.args.n c.ranges.n in
    let sought = subst (λ m. IsSought m c.args.numbers.now c.loop-low.low c.loop-low.high) back c.loop-low.invariant in
    nowhere c.args.n c.args.numbers.now c.loop-low.low c.loop-low.high sought (search (rules, arith))
