use Rattle.std.proofs.Common.{◌≡◌, ◌+◌, ◌++◌, ◌∷◌, [], drop, length, rules}
use Rattle.std.proofs.lemmas.List.{nil_from_length}
use Rattle.row_bounds.proofs.Hulls.{own_rest, rest_within, within_more}
use Rattle.row_bounds.proofs.Shifts.{own_shifted, shifted_lies}
use Rattle.row_bounds.proofs.Sets.{all_moved, moved_more, moved_past}
use Rattle.row_bounds.proofs.shifting.shifted.Goals as goal

pub loop-bound-preserved-in-Continue-1 : goal.loop-bound-preserved-in-Continue-1
loop-bound-preserved-in-Continue-1 c =
    let b = c.in-Some.bound in
    let moved = c.in-Some-shift.bound in
    let first = c.args.first in
    let was = c.loop-bound.bound-iterator.rest.items in
    let rest = c.next.new.self.rest.items in
    let out = c.loop-bound.out.items in
    let rest_is : was ≡ b ∷ rest = search rules in
    let next_is : c.push.new.self.items ≡ out ++ moved ∷ [] = search rules in
    record {
      own = λ n all.
          let before = c.loop-bound.invariant.own n all in
          (own_shifted n first b moved was rest out c.push.new.self.items rest_is next_is c.in-Some-shift.ensures.column before.1 before.0, own_rest (first + n) b was rest rest_is before.1);
      kept = λ row all.
          let before = c.loop-bound.invariant.kept row all in
          let parts = rest_within b was rest row rest_is before.1 in
          (within_more moved out c.push.new.self.items (drop first row) next_is before.0 (shifted_lies b moved first row c.in-Some-shift.ensures.column c.in-Some-shift.ensures.same parts.0), parts.1);
      moved = moved_more first c.args.bounds.items was rest out c.push.new.self.items b moved rest_is next_is (λ x is. let here = c.shift.ensures.moved x is in cc) c.loop-bound.invariant.moved;
    }

pub loop-bound-preserved : goal.loop-bound-preserved
loop-bound-preserved c =
    let b = c.in-Some.bound in
    let was = c.loop-bound.bound-iterator.rest.items in
    let rest = c.next.new.self.rest.items in
    let rest_is : was ≡ b ∷ rest = search rules in
    record {
      own = λ n all. let before = c.loop-bound.invariant.own n all in (before.0, own_rest (c.args.first + n) b was rest rest_is before.1);
      kept = λ row all. let before = c.loop-bound.invariant.kept row all in (before.0, (rest_within b was rest row rest_is before.1).1);
      moved = moved_past c.args.first c.args.bounds.items was rest c.loop-bound.out.items b rest_is (λ x is. let here = c.shift.ensures.moved x is in cc) c.loop-bound.invariant.moved;
    }

pub returns-clause-own : goal.returns-clause-own
returns-clause-own c = λ n all. (c.loop-bound.invariant.own n all).0

pub returns-clause-moved : goal.returns-clause-moved
returns-clause-moved c =
    let length_none : length c.loop-bound.bound-iterator.rest.items ≡ 0 = search rules in
    let none : c.loop-bound.bound-iterator.rest.items ≡ [] = nil_from_length c.loop-bound.bound-iterator.rest.items length_none in
    all_moved c.args.first c.args.bounds.items c.loop-bound.out.items c.loop-bound.bound-iterator.rest.items none c.loop-bound.invariant.moved
