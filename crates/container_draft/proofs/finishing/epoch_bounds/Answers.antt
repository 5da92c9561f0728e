use Rattle.std.proofs.Common.{◌≡◌, ◌≤◌, ℕ, List, get_or, subst}
use Rattle.std.specs.List.{All}
use Rattle.std.proofs.lemmas.List.{get_or_default, take_all}
use Rattle.container_draft.specs.Placed.{asked_at}
use Rattle.container_draft.proofs.Ended.{greater_at, lesser_at}
use Rattle.container_draft.proofs.finishing.epoch_bounds.Goals as goal

pub loop-place-preserved : goal.loop-place-preserved
loop-place-preserved c =
    let places = c.args.places.now in
    let i = c.loop-place.place-index in
    let x : ℕ = get_or places i 0 in
    let x_is : x ≡ get_or places i x = get_or_default places i 0 x c.loop-place-test.true in
    record {
      least = lesser_at c.args.rows.now places i x c.loop-place.least c.epoch_at-epoch.result c.min-least.result c.loop-place-test.true x_is c.epoch_at-epoch.ensures c.min-least.ensures c.loop-place.invariant.least;
      greatest = greater_at c.args.rows.now places i x c.loop-place.greatest c.epoch_at-epoch.result c.max-greatest.result c.loop-place-test.true x_is c.epoch_at-epoch.ensures c.max-greatest.ensures c.loop-place.invariant.greatest;
    }

pub returns-clause-least : goal.returns-clause-least
returns-clause-least c = subst (All (λ (j : ℕ). c.loop-place.least ≤ (asked_at c.args.rows.now j).ins)) (take_all c.loop-place.place-index c.args.places.now c.loop-place-test.false) c.loop-place.invariant.least

pub returns-clause-greatest : goal.returns-clause-greatest
returns-clause-greatest c = subst (All (λ (j : ℕ). (asked_at c.args.rows.now j).ins ≤ c.loop-place.greatest)) (take_all c.loop-place.place-index c.args.places.now c.loop-place-test.false) c.loop-place.invariant.greatest
