use Rattle.std.proofs.Common.{◌≡◌, Some, map, position, rules}
use Rattle.sql_bound.specs.Outputs.{same_keys}
use Rattle.exec_group.specs.NumberKeys.{number_key}
use Rattle.exec_group.proofs.Entering.{known_met}
use Rattle.exec_group.proofs.number_keys.enter_number_beside.Goals as goal

pub returns-then-found-n-clause-met : goal.returns-then-found-n-clause-met
returns-then-found-n-clause-met c =
    let ks = map number_key c.args.numbers.now in
    let at : position (λ k. same_keys k (number_key c.args.n)) ks ≡ Some c.in-Some.found.1 = search rules in
    known_met ks (number_key c.args.n) c.in-Some.found.1 at
