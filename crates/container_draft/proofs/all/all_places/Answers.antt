use Rattle.std.proofs.Common.{rules}
use Rattle.container_draft.proofs.Joined.{places_more}
use Rattle.container_draft.proofs.all.all_places.Goals as goal

pub loop-place-preserved : goal.loop-place-preserved
loop-place-preserved c = places_more c.loop-place.place c.loop-place.out.items c.push.new.self.items c.loop-place.invariant (search rules)
