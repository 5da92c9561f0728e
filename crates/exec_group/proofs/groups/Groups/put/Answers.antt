use Rattle.std.proofs.Common.{◌≡◌, ℕ, List, ◌∷◌, [], Option, Some, ap, length, position, subst, sym, ◌∙◌, rules}
use Rattle.std.proofs.lemmas.Result.{on_ok_weaker}
use Rattle.col_value.specs.declared.value.Value.{Value}
use Rattle.sql_bound.specs.Outputs.{keys_of, same_keys}
use Rattle.exec_group.specs.Columns.{each_put}
use Rattle.exec_group.specs.Groups.{Held, met_one, IsPut}
use Rattle.exec_group.proofs.groups.Groups.put.Goals as goal

pub returns : goal.returns
returns c =
    let row = c.args.row.now in
    let key = keys_of c.args.keys.now row in
    let g = c.in_ok-group.group in
    let met : c.enter_row.new.self ≡ met_one c.self.inside.keys key = search rules in
    let there : position (λ k. same_keys k key) c.enter_row.new.self ≡ Some g = search rules in
    let many : c.len-count.result ≡ length c.enter_row.new.self = search rules in
    on_ok_weaker c.put_row.result (λ e. subst (λ (h : Held). IsPut (λ (r : List Value). r) c.args.keys.now c.args.aggs.now (row ∷ []) h (record { keys = c.enter_row.new.self; columns = c.put_row.new.columns.items })) c.self.view_is (record {
      keys_met = met;
      places = g ∷ [];
      there = ap (λ (o : Option ℕ). o ∷ []) (sym there);
      taken = e ∙ ap (λ (n : ℕ). each_put (λ (r : List Value). r) n (g ∷ []) (row ∷ []) c.args.aggs.now c.self.inside.columns.items) many;
    })) c.put_row.ensures
