use Rattle.std.proofs.Common.{take}
use Rattle.std.specs.List.{All}
use Rattle.store_opening.specs.Missing.{HasFilesIn}
use Rattle.store_opening.proofs.missing.missing_among.Given as goal

abbrev pub invariant-loop-projection : goal.invariant-loop-projection
invariant-loop-projection l = All (HasFilesIn l.names) (take l.projection-index l.projections)
