use Rattle.std.proofs.Common.{◌≡◌, ◌++◌, ◌∷◌, [], Some, ◌+◌, get_or, position, subst, sym, take, rules}
use Rattle.sql_bound.specs.Outputs.{keys_of, same_keys}
use Rattle.exec_group.specs.Columns.{row_of}
use Rattle.exec_group.specs.Groups.{met_one, AreEntered}
use Rattle.exec_group.proofs.Entering.{entered_more}
use Rattle.exec_group.proofs.held_keys.Keys.enter_each.Goals as goal

pub loop-place-preserved : goal.loop-place-preserved
loop-place-preserved c =
    let i = c.loop-place.place-index in
    let places = c.args.places.now in
    let key = keys_of c.args.keys.now (row_of c.args.columns.now (get_or places i 0)) in
    let next = c.enter_beside.new.self in
    let met : next ≡ met_one c.loop-place.self key = search rules in
    let there : position (λ k. same_keys k key) next ≡ Some c.in_ok-group.group = search rules in
    let out : c.push.new.self.items ≡ c.loop-place.out.items ++ c.in_ok-group.group ∷ [] = search rules in
    record {
      entered =
          subst (AreEntered (λ p. keys_of c.args.keys.now (row_of c.args.columns.now p)) (take (i + 1) places) c.args.self.now next) (sym out)
          (entered_more (λ p. keys_of c.args.keys.now (row_of c.args.columns.now p)) places i c.args.self.now c.loop-place.self next c.loop-place.out.items c.in_ok-group.group c.loop-place-test.true met there c.loop-place.invariant.entered);
      known = there;
    }
