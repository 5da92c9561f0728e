use Rattle.std.proofs.Common.{take}
use Rattle.store_core.specs.Stepping.{NoneIsStale}
use Rattle.store_core.proofs.store.stepping.stale_place.Given as goal

abbrev pub invariant-loop-table : goal.invariant-loop-table
invariant-loop-table l = NoneIsStale l.name (take l.table l.tables)
