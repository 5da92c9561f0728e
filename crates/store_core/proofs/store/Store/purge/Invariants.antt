use Rattle.std.proofs.Common.{◌≡◌, ◌≤◌, ℕ, List}
use Rattle.std.specs.Prelude.{IsSomeAnd}
use Rattle.std.specs.List.{slice_get}
use Rattle.db_model.specs.State.{State}
use Rattle.store_core.specs.Running.{IsState}
use Rattle.store_core.proofs.Purged.{PurgedTo}
use Rattle.store_core.proofs.Purging.{Purging}
use Rattle.store_core.proofs.store.Store.purge.Given as goal

abbrev pub invariant-loop-place : goal.invariant-loop-place
invariant-loop-place g l = record {
  chain : (state : State) (name : List ℕ) → IsState g.D.Disk l.fn.self l.fn.disk state → IsSomeAnd (slice_get l.fn.self.seen.catalogue.tables l.table) (λ t. t.name ≡ name)
      → Purging g.D.Disk name state l.table l.place l.self l.fn.disk l.disk;
  whole : (state : State) (name : List ℕ) → IsState g.D.Disk l.fn.self l.fn.disk state → IsSomeAnd (slice_get l.fn.self.seen.catalogue.tables l.table) (λ t. t.name ≡ name) → PurgedTo l.table l.place l.self;
  count : g.D.Disk.faults l.fn.disk ≤ g.D.Disk.faults l.disk;
}
