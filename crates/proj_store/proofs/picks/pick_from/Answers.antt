use Rattle.std.proofs.Common.{◌≡◌, ◌+◌, ◌<◌, ◌++◌, ◌∷◌, [], length, get_or, cond, rules, arith}
use Rattle.std.specs.Prelude.{None}
use Rattle.std.proofs.lemmas.List.{get_or_default}
use Rattle.wanted_rows.specs.Wanted.{need_in}
use Rattle.wanted_rows.proofs.Rows.{pick_some, pick_start, pick_end, inside_more, fewer_more}
use Rattle.proj_store.proofs.picks.pick_from.Goals.{then-branch+in_ok-push, else-branch}
use Rattle.proj_store.proofs.picks.pick_from.Goals as goal

pub loop-i-init : goal.loop-i-init
loop-i-init c = record {
  picked = λ mark all stand start was. pick_start c.args.first mark all c.args.places.now.items start (need_in c.args.wants.now) was;
  inside = λ n le all. all;
  fewer = λ q. omega arith;
  within = omega arith;
}

pub loop-i-preserved : goal.loop-i-preserved
loop-i-preserved c =
    let some = c.args.some.now in
    let row = get_or some c.loop-i.i None in
    let lt : c.loop-i.i < length some = omega (arith, c.loop-i-test.true, c.len-i-end.ensures) in
    let next : c.if-branch.places.items ≡ cond c.in_ok-try_at.field-0 (c.loop-i.places.items ++ (c.args.first + c.loop-i.i) ∷ []) c.loop-i.places.items =
    elim c.if-branch.branch [ then-branch+in_ok-push w ↦ search rules | else-branch w ↦ search rules ] in
    record {
      picked = λ mark all stand start was.
          pick_some c.args.first mark all some c.loop-i.i row c.loop-i.places.items c.if-branch.places.items start (need_in c.args.wants.now) _ _ c.in_ok-try_at.field-0
          stand (c.loop-i.invariant.picked mark all stand start was) c.loop-i.invariant.fewer lt (get_or_default some c.loop-i.i None row lt) c.in_ok-try_at.ensures next;
      inside = inside_more c.in_ok-try_at.field-0 c.args.first c.loop-i.i c.args.places.now.items c.loop-i.places.items c.if-branch.places.items next c.loop-i.invariant.inside;
      fewer = fewer_more c.in_ok-try_at.field-0 row (need_in c.args.wants.now) _ _ c.in_ok-try_at.ensures c.loop-i.invariant.fewer;
      within = omega (arith, lt);
    }

pub returns-clause-picked : goal.returns-clause-picked
returns-clause-picked c = λ mark all stand start was.
    pick_end c.args.first c.loop-i.i c.args.some.now mark all c.loop-i.places.items start (need_in c.loop-i.wants) c.loop-i.invariant.within (omega (arith, c.loop-i-test.false, c.len-i-end.ensures))
    (c.loop-i.invariant.picked mark all stand start was)
