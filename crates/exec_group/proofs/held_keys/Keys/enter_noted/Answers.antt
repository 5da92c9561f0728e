use Rattle.std.proofs.Common.{◌≡◌, Some, position, rules}
use Rattle.sql_bound.specs.Outputs.{keys_of, same_keys}
use Rattle.exec_group.specs.Columns.{row_of}
use Rattle.exec_group.proofs.Entering.{known_met}
use Rattle.exec_group.proofs.held_keys.Keys.enter_noted.Goals as goal

pub returns-in-Some-clause-met : goal.returns-in-Some-clause-met
returns-in-Some-clause-met c =
    let key = keys_of c.args.keys.now (row_of c.args.columns.now c.args.place) in
    let at : position (λ k. same_keys k key) c.args.self.now ≡ Some c.in-Some.group = search rules in
    known_met c.args.self.now key c.in-Some.group at
