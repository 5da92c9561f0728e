use Rattle.std.proofs.Common.{rules, ◌≡◌, ◌-◌, ◌<◌, arith, length, of_z, to_z, w64, subst}
use Rattle.std.proofs.lemmas.Int.{to_z-of_z}
use Rattle.row_keys.specs.Numbers.{number_at}
use Rattle.exec_group.specs.Rising.{IsAboveAll}
use Rattle.exec_group.proofs.Rising.{found_there, none_above}
use Rattle.exec_group.proofs.met_numbers.find_rising.Goals as goal

pub returns-then-is_above : goal.returns-then-is_above
returns-then-is_above c =
    let back : to_z w64 (of_z w64 c.args.n) ≡ c.args.n = to_z-of_z w64 c.args.n c.ranges.n in
    none_above c.args.n c.args.numbers.now (subst (IsAboveAll c.args.numbers.now) back (c.is_above.ensures (search rules)))

pub returns-then-is_last : goal.returns-then-is_last
returns-then-is_last c =
    let numbers = c.args.numbers.now in
    let some : 0 < length numbers = search rules in
    let here : number_at numbers (length numbers - 1) ≡ c.args.n = search rules in
    found_there c.args.n numbers c.requires (length numbers - 1) (omega (arith, some)) here
