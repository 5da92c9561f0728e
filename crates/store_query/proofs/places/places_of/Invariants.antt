use Rattle.std.proofs.Common.{map}
use Rattle.store_query.specs.Placing.{ArePlacesOf}
use Rattle.store_query.proofs.places.places_of.Given as goal

abbrev pub invariant-loop-c : goal.invariant-loop-c
invariant-loop-c l = ArePlacesOf l.query l.fn.item.first l.c (map (λ k. k.ordinal) l.columns) l.out.items
