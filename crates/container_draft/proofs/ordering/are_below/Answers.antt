use Rattle.std.proofs.Common.{◌≡◌, ◌<◌, ℕ, arith, get_or, subst}
use Rattle.std.specs.List.{All}
use Rattle.std.proofs.lemmas.List.{take_all, get_or_default}
use Rattle.std.proofs.lemmas.List.Elements.{All-more}
use Rattle.container_draft.proofs.ordering.are_below.Goals as goal

pub loop-place-preserved : goal.loop-place-preserved
loop-place-preserved c = All-more (λ (i : ℕ). i < c.args.count) c.args.places.now c.loop-place.place-index 0 c.loop-place-test.true c.loop-place.invariant (omega (arith, c.if-place-count.false))

pub returns : goal.returns
returns c = λ _. subst (All (λ (i : ℕ). i < c.args.count)) (take_all c.loop-place.place-index c.args.places.now c.loop-place-test.false) c.loop-place.invariant
