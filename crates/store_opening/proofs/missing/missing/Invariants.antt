use Rattle.std.proofs.Common.{take}
use Rattle.std.specs.List.{All}
use Rattle.store_opening.specs.Missing.{HasFilesAmong}
use Rattle.store_opening.proofs.missing.missing.Given as goal

abbrev pub invariant-loop-table : goal.invariant-loop-table
invariant-loop-table l = All (HasFilesAmong l.names) (take l.table-index l.tables)
