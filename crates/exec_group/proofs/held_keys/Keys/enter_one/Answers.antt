use Rattle.std.proofs.Common.{◌≡◌, ℕ, List, Some, ap, get_or, length, position, replicate, subst, sym, ◌∙◌, rules}
use Rattle.sql_bound.specs.Outputs.{keys_of, same_keys}
use Rattle.exec_group.specs.Columns.{row_of}
use Rattle.exec_group.specs.Groups.{met_one, AreEntered}
use Rattle.exec_group.proofs.Coded.{if_ok}
use Rattle.exec_group.proofs.Noted.{one_entered}
use Rattle.exec_group.proofs.held_keys.Keys.enter_one.Goals as goal

pub returns-in_ok-group-in-len1-up : goal.returns-in_ok-group-in-len1-up
returns-in_ok-group-in-len1-up c =
    let places = c.args.places.now in
    let next = c.enter_at.new.self in
    let group = c.in_ok-group-in-len1-up.group in
    let first = keys_of c.args.keys.now (row_of c.args.columns.now (get_or places 0 0)) in
    let met : next ≡ met_one c.args.self.now first = search rules in
    let there : position (λ k. same_keys k first) next ≡ Some group = search rules in
    if_ok c.repeated.result (λ v. v.items ≡ replicate (length places) group) _
    (λ v is. subst (AreEntered (λ p. keys_of c.args.keys.now (row_of c.args.columns.now p)) places c.args.self.now next) (sym is)
    (one_entered (λ p. keys_of c.args.keys.now (row_of c.args.columns.now p)) places c.args.self.now next group c.in-len1-up.len_at_least
    (λ a b. ap (λ (ks : List ℕ). keys_of ks (row_of c.args.columns.now a)) c.requires ∙ sym (ap (λ (ks : List ℕ). keys_of ks (row_of c.args.columns.now b)) c.requires)) met there))
    (search rules)
