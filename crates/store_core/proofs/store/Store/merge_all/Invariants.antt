use Rattle.std.proofs.Common.{◌≤◌}
use Rattle.db_model.specs.State.{State}
use Rattle.store_core.specs.Running.{IsState}
use Rattle.store_core.proofs.Raising.{Merging}
use Rattle.store_core.proofs.store.Store.merge_all.Given as goal

abbrev pub invariant-loop : goal.invariant-loop
invariant-loop g l = record {
  chain : (state : State) → IsState g.D.Disk l.fn.self l.fn.disk state → Merging g.D.Disk state l.self l.fn.disk l.disk;
  count : g.D.Disk.faults l.fn.disk ≤ g.D.Disk.faults l.disk;
}
