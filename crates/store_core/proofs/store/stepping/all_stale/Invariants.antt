use Rattle.std.proofs.Common.{◌≡◌, take}
use Rattle.store_core.specs.Stepping.{all_stale}
use Rattle.store_core.proofs.store.stepping.all_stale.Given as goal

abbrev pub invariant-loop-table : goal.invariant-loop-table
invariant-loop-table l = l.out.items ≡ all_stale (take l.table-index l.tables)
