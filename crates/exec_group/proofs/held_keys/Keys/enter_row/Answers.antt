use Rattle.std.proofs.Common.{◌≡◌, ◌++◌, ◌∷◌, [], List, Some, None, length, position, ap, ◌∙◌, rules}
use Rattle.col_value.specs.declared.value.Value.{Value}
use Rattle.sql_bound.specs.Outputs.{keys_of, same_keys}
use Rattle.exec_group.specs.Columns.{row_of}
use Rattle.exec_group.proofs.Entering.{known_met, new_met, new_there}
use Rattle.exec_group.proofs.held_keys.Keys.enter_row.Goals as goal

pub returns-in-Some-clause-met : goal.returns-in-Some-clause-met
returns-in-Some-clause-met c =
    let key = keys_of c.args.keys.now c.args.row.now in
    let at : position (λ k. same_keys k key) c.args.self.now ≡ Some c.in-Some.place = search rules in
    known_met c.args.self.now key c.in-Some.place at

pub returns-in_ok-add-in-None-clause-met : goal.returns-in_ok-add-in-None-clause-met
returns-in_ok-add-in-None-clause-met c =
    let key = keys_of c.args.keys.now c.args.row.now in
    let none : position (λ k. same_keys k key) c.args.self.now ≡ None = search rules in
    let added : c.add.new.self ≡ c.args.self.now ++ key ∷ [] = search rules in
    added ∙ new_met c.args.self.now key none

pub returns-in_ok-add-in-None-clause-there : goal.returns-in_ok-add-in-None-clause-there
returns-in_ok-add-in-None-clause-there c =
    let key = keys_of c.args.keys.now c.args.row.now in
    let none : position (λ k. same_keys k key) c.args.self.now ≡ None = search rules in
    let added : c.add.new.self ≡ c.args.self.now ++ key ∷ [] = search rules in
    let long : length c.args.self.now ≡ c.len-place.result = search rules in
    ap (λ (ks : List (List Value)). position (λ k. same_keys k key) ks) added ∙ new_there c.args.self.now key none ∙ ap Some long
