use Rattle.std.proofs.Common.{◌≡◌, ◌≤◌, ℕ, List}
use Rattle.std.specs.Prelude.{IsSomeAnd}
use Rattle.std.specs.List.{slice_get}
use Rattle.db_model.specs.State.{State}
use Rattle.store_core.specs.Running.{IsState}
use Rattle.store_core.proofs.Refreshing.{Refreshing}
use Rattle.store_core.proofs.store.Store.refresh.Given as goal

abbrev pub invariant-loop : goal.invariant-loop
invariant-loop g l = record {
  chain : (state : State) (name : List ℕ) → IsState g.D.Disk l.fn.self l.fn.disk state → IsSomeAnd (slice_get l.fn.self.seen.catalogue.tables l.table) (λ t. t.name ≡ name)
      → Refreshing g.D.Disk name state l.table l.counter l.self l.fn.disk l.disk;
  count : g.D.Disk.faults l.fn.disk ≤ g.D.Disk.faults l.disk;
}
