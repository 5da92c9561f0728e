use Rattle.std.proofs.Common.{◌∙◌, false, get_or, refl, sym}
use Rattle.exec_scan.proofs.Alive.{chosen_none, places_next}
use Rattle.exec_scan.proofs.chosen.places_alive.Goals as goal

pub loop-i-init : goal.loop-i-init
loop-i-init c = c.in_ok-places-2.ensures.items ∙ sym (chosen_none c.args.alive.now)

pub loop-i-preserved : goal.loop-i-preserved
loop-i-preserved c = places_next c.args.alive.now c.loop-i.places.items c.put_place.new.places.items c.loop-i.i (get_or c.args.alive.now c.loop-i.i false) refl c.in_ok-put_place.ensures c.loop-i.invariant
