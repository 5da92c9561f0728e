use Rattle.std.proofs.Common.{take}
use Rattle.table_jobs.specs.Sources.{ordinals_of, ArePlaces}
use Rattle.table_jobs.proofs.refreshing.places_of.Given as goal

abbrev pub invariant-loop-column : goal.invariant-loop-column
invariant-loop-column l = ArePlaces (ordinals_of l.source) l.out.items (ordinals_of (take l.column-index l.columns))
