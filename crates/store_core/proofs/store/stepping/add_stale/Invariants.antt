use Rattle.std.proofs.Common.{◌≡◌, ◌++◌, take}
use Rattle.store_core.specs.Stepping.{stale_in}
use Rattle.store_core.proofs.store.stepping.add_stale.Given as goal

abbrev pub invariant-loop-projection : goal.invariant-loop-projection
invariant-loop-projection l = l.out.items ≡ l.fn.out.items ++ stale_in (take l.projection-index l.projections)
