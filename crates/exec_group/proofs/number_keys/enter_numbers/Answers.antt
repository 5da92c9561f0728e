use Rattle.std.proofs.Common.{◌≡◌, List, ◌+◌, ◌++◌, ◌∷◌, [], Some, ap, get_or, map, position, subst, sym, take, ◌∙◌, rules}
use Rattle.col_value.specs.declared.value.Value.{Value}
use Rattle.sql_bound.specs.Outputs.{keys_of, same_keys}
use Rattle.exec_group.specs.Columns.{row_of}
use Rattle.exec_group.specs.Groups.{met_one, AreEntered}
use Rattle.exec_group.specs.NumberKeys.{null_number, number_key}
use Rattle.exec_group.proofs.Entering.{entered_more}
use Rattle.exec_group.proofs.number_keys.enter_numbers.Goals as goal

pub loop-place-preserved : goal.loop-place-preserved
loop-place-preserved c =
    let i = c.loop-place.place-index in
    let places = c.args.places.now in
    let n = c.in_ok-found.found.0 in
    let group = c.in_ok-found.found.1 in
    let key = keys_of c.args.keys.now (row_of c.args.columns.now (get_or places i 0)) in
    let now = map number_key c.loop-place.numbers in
    let next = map number_key c.enter_number_beside.new.numbers in
    let same : n ≡ get_or c.args.lane.now (get_or places i 0) null_number = search rules in
    let is : number_key n ≡ key = ap number_key same ∙ c.requires (get_or places i 0) in
    let met : next ≡ met_one now (number_key (get_or c.args.lane.now (get_or places i 0) null_number)) = search rules in
    let there : position (λ k. same_keys k (number_key n)) next ≡ Some group = search rules in
    let out : c.push.new.self.items ≡ c.loop-place.out.items ++ group ∷ [] = search rules in
    record {
      entered =
          subst (AreEntered (λ p. keys_of c.args.keys.now (row_of c.args.columns.now p)) (take (i + 1) places) (map number_key c.args.numbers.now) next) (sym out)
          (entered_more (λ p. keys_of c.args.keys.now (row_of c.args.columns.now p)) places i (map number_key c.args.numbers.now) now next c.loop-place.out.items group c.loop-place-test.true
          (met ∙ ap (met_one now) (c.requires (get_or places i 0))) (ap (λ (x : List Value). position (λ k. same_keys k x) next) (sym is) ∙ there) c.loop-place.invariant.entered);
      known = there;
    }
