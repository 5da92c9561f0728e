use Rattle.std.proofs.Common.{map}
use Rattle.row_matching.specs.Seeing.{ArePlaces}
use Rattle.row_matching.proofs.sources.places_of.Given as goal

abbrev pub invariant-loop-column : goal.invariant-loop-column
invariant-loop-column l = ArePlaces (map (λ c. c.ordinal) l.columns) l.column l.out.items
