use Rattle.std.proofs.Common.{length, refl}
use Rattle.std.proofs.lemmas.Result.{IfOk-weaker}
use Rattle.container_draft.proofs.ByLeads.{led_same, led_sorted, led_within}
use Rattle.container_draft.proofs.ordering.in_order.Goals as goal

pub returns-clause-same : goal.returns-clause-same
returns-clause-same c =
    IfOk-weaker c.places_of.result _ _
    (λ v is. led_same c.args.places.items c.in_ok-leds.leds.items c.in_ok-sorted.sorted.items c.as_slice-3.result.now v.items c.in_ok-leds.ensures.places c.in_ok-sorted.ensures.same c.as_slice-3.ensures.value is) c.places_of.ensures

pub returns-clause-within : goal.returns-clause-within
returns-clause-within c =
    IfOk-weaker c.places_of.result _ _
    (λ v is. led_within (length c.args.rows.now) c.count.result c.args.places.items c.as_slice.result.now c.in_ok-leds.leds.items c.in_ok-sorted.sorted.items c.as_slice-3.result.now v.items c.count.ensures c.as_slice.ensures.value
    (c.if-not-are_below.ensures refl) c.in_ok-leds.ensures.places c.in_ok-sorted.ensures.same c.as_slice-3.ensures.value is) c.places_of.ensures

pub returns-clause-ascending : goal.returns-clause-ascending
returns-clause-ascending c =
    IfOk-weaker c.places_of.result _ _
    (λ v is. led_sorted c.args.shape.now c.args.rows.now c.in_ok-leds.leds.items c.in_ok-sorted.sorted.items c.as_slice-3.result.now v.items c.in_ok-leds.ensures.led c.in_ok-sorted.ensures.same c.in_ok-sorted.ensures.ascending
    c.as_slice-3.ensures.value is) c.places_of.ensures
