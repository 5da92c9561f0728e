use Rattle.std.proofs.Common.{map}
use Rattle.row_matching.proofs.Placed.{places_next, places_none}
use Rattle.row_matching.proofs.sources.places_of.Goals as goal

pub loop-column-init : goal.loop-column-init
loop-column-init c = places_none (map (λ k. k.ordinal) c.args.columns.now) c.new-out.result.items c.new-out.ensures.items

pub loop-column-preserved : goal.loop-column-preserved
loop-column-preserved c = places_next (map (λ k. k.ordinal) c.args.columns.now) c.loop-column.column c.loop-column.out.items c.push.new.self.items c.in-Some.place c.in_ok-push-in-Some.ensures.items c.in-Some.ensures c.loop-column.invariant
