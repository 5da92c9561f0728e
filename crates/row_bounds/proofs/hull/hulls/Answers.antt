use Rattle.std.proofs.Common.{◌≡◌, ◌++◌, ◌∷◌, [], List, ap, ◌∙◌, subst, true, rules}
use Rattle.std.specs.Prelude.{Option}
use Rattle.std.specs.List.{slice_index_or}
use Rattle.std.specs.Option.{IfSome}
use Rattle.col_value.specs.declared.value.Value.{Value}
use Rattle.col_value.specs.declared.value.Value.TheVariants as value
use Rattle.row_bounds.specs.declared.bound.Bound.{Bound}
use Rattle.row_bounds.specs.Bounds.{lies_in, within}
use Rattle.row_bounds.proofs.Hulls.{own_rest, own_more, rest_within, within_more}
use Rattle.row_bounds.proofs.hull.hulls.Goals as goal

pub loop-bound-preserved-in-Continue-branch-3 : goal.loop-bound-preserved-in-Continue-branch-3
loop-bound-preserved-in-Continue-branch-3 c =
    let b = c.in-Some.bound in
    let h = c.in-Some-2.hull in
    let was = c.loop-bound.bound-iterator.rest.items in
    let rest = c.next.new.self.rest.items in
    let out = c.loop-bound.out.items in
    let rest_is : was ≡ b ∷ rest = search rules in
    let next_is : c.push.new.self.items ≡ out ++ h ∷ [] = search rules in
    let column : h.column ≡ b.column = subst (λ (o : Option Bound). IfSome o (λ x. x.column ≡ b.column)) c.in-Some-2.is c.in_ok-hull.ensures.column in
    let first : (v : Value) → lies_in b v ≡ true → lies_in h v ≡ true = subst (λ (o : Option Bound). IfSome o (λ x. (v : Value) → lies_in b v ≡ true → lies_in x v ≡ true)) c.in-Some-2.is c.in_ok-hull.ensures.first in
    let second : (row : List Value) → within c.args.others.now row ≡ true → lies_in h (slice_index_or row h.column value.Null) ≡ true =
    subst (λ (o : Option Bound). IfSome o (λ x. (row : List Value) → within c.args.others.now row ≡ true → lies_in x (slice_index_or row x.column value.Null) ≡ true)) c.in-Some-2.is c.in_ok-hull.ensures.second in
    record {
      own = λ n all.
          let before = c.loop-bound.invariant.own n all in
          (own_more n b h was rest out c.push.new.self.items rest_is next_is column before.1 before.0, own_rest n b was rest rest_is before.1);
      first = λ row all.
          let before = c.loop-bound.invariant.first row all in
          let parts = rest_within b was rest row rest_is before.1 in
          (within_more h out c.push.new.self.items row next_is before.0 (ap (λ k. lies_in h (slice_index_or row k value.Null)) column ∙ first (slice_index_or row b.column value.Null) parts.0), parts.1);
      second = λ row all. within_more h out c.push.new.self.items row next_is (c.loop-bound.invariant.second row all) (second row all);
    }

pub loop-bound-preserved : goal.loop-bound-preserved
loop-bound-preserved c =
    let b = c.in-Some.bound in
    let was = c.loop-bound.bound-iterator.rest.items in
    let rest = c.next.new.self.rest.items in
    let rest_is : was ≡ b ∷ rest = search rules in
    record {
      own = λ n all. let before = c.loop-bound.invariant.own n all in (before.0, own_rest n b was rest rest_is before.1);
      first = λ row all. let before = c.loop-bound.invariant.first row all in (before.0, (rest_within b was rest row rest_is before.1).1);
      second = c.loop-bound.invariant.second;
    }
