use Rattle.std.proofs.Common.{map}
use Rattle.store_query.proofs.Putting.{places_next, places_none, places_within}
use Rattle.store_query.proofs.places.places_of.Goals as goal

pub loop-c-init : goal.loop-c-init
loop-c-init c = places_none c.args.query.now c.args.item.first (map (λ k. k.ordinal) c.args.columns.now) c.in_ok-out.out.items c.in_ok-out.ensures.items

pub loop-c-preserved : goal.loop-c-preserved
loop-c-preserved c = places_next c.args.query.now c.args.item.first c.loop-c.c (map (λ k. k.ordinal) c.args.columns.now) c.loop-c.out.items c.push.new.self.items c.place_of.result c.in_ok-push.ensures.items c.place_of.ensures c.loop-c.invariant

pub returns-clause-within : goal.returns-clause-within
returns-clause-within c = places_within c.args.query.now c.args.item.first c.loop-c.c c.args.columns.now c.loop-c.out.items c.loop-c.invariant
