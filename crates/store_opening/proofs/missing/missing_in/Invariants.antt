use Rattle.std.proofs.Common.{take}
use Rattle.std.specs.List.{All}
use Rattle.store_opening.specs.Missing.{HasFilesOf}
use Rattle.store_opening.proofs.missing.missing_in.Given as goal

abbrev pub invariant-loop-container : goal.invariant-loop-container
invariant-loop-container l = All (HasFilesOf l.names) (take l.container-index l.containers)
