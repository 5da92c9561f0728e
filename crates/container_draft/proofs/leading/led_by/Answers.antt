use Rattle.std.proofs.Common.{rules}
use Rattle.container_draft.proofs.ByLeads.{led_more, places_more}
use Rattle.container_draft.proofs.leading.led_by.Goals as goal

pub loop-place-preserved : goal.loop-place-preserved
loop-place-preserved c = record {
  room = search rules;
  places = places_more c.loop-place.place-index c.args.places.now c.loop-place.out.items c.push_reserved.new.self.items c.led_at.result c.push_reserved.ensures.items c.led_at.ensures.place c.loop-place-test.true c.loop-place.invariant.places;
  led = led_more c.args.keys c.args.rows.now c.loop-place.out.items c.push_reserved.new.self.items c.led_at.result c.push_reserved.ensures.items c.led_at.ensures.led c.loop-place.invariant.led;
}
