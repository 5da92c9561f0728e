use Rattle.std.proofs.Common.{◌≡◌, drop}
use Rattle.store_core.specs.Waiting.{has_name}
use Rattle.store_core.proofs.store.mover.has_name.Given as goal

abbrev pub invariant-loop-projection : goal.invariant-loop-projection
invariant-loop-projection l = has_name l.name (drop l.projection-index l.projections) ≡ has_name l.name l.projections
