use Rattle.std.proofs.Common.{◌≡◌, ◌∙◌, ap, of_z, to_z, rules}
use Rattle.std.specs.Int.{w64}
use Rattle.sql_bound.specs.Outputs.{keys_of}
use Rattle.exec_group.specs.NumberKeys.{number_key, IsNoKey}
use Rattle.exec_group.proofs.Numbered.{place_of_none, place_of_number}
use Rattle.exec_group.proofs.number_keys.find_row_number.Goals as goal

pub returns-in-Some : goal.returns-in-Some
returns-in-Some c =
    let n = to_z w64 (of_z w64 c.in-Some.n) in
    let is : number_key n ≡ (keys_of c.args.keys.now c.args.row.now) = search rules in
    c.find.ensures ∙ place_of_number n (keys_of c.args.keys.now c.args.row.now) c.args.numbers.now is

pub returns-in-None : goal.returns-in-None
returns-in-None c =
    let none : IsNoKey (keys_of c.args.keys.now c.args.row.now) = c.in-None.ensures.none in
    place_of_none (keys_of c.args.keys.now c.args.row.now) c.args.numbers.now none
