use Rattle.std.proofs.Common.{get_or, refl, rules}
use Rattle.container_draft.proofs.ByLeads.{lane_rank, rise_all, rise_on}
use Rattle.container_draft.proofs.ordering.are_rising.Goals as goal

pub loop-place-preserved : goal.loop-place-preserved
loop-place-preserved c =
    let i = c.loop-place.place-index in
    rise_on c.args.shape.now c.args.rows.now c.args.places.now i _ c.far_on-at.result.at _
    (lane_rank c.args.shape.now c.args.rows.now c.args.lane.now (get_or c.args.places.now i 0) c.far_on-at.result.at c.requires c.far_on-at.ensures.at) (c.if-not-is_less.ensures refl) (search rules) c.loop-place.invariant

pub returns : goal.returns
returns c = λ _. rise_all c.args.shape.now c.args.rows.now c.args.places.now c.loop-place.place-index _ c.loop-place-test.false c.loop-place.invariant
