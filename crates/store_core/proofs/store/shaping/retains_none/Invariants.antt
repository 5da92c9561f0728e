use Rattle.std.proofs.Common.{◌≡◌, drop}
use Rattle.std.specs.List.{list_any}
use Rattle.table_store.specs.Held.{projections_of}
use Rattle.store_core.specs.Shaping.{is_fresh}
use Rattle.store_core.proofs.store.shaping.retains_none.Given as goal

abbrev pub invariant-loop-projection : goal.invariant-loop-projection
invariant-loop-projection l = list_any is_fresh (projections_of (drop l.projection-index l.projections)) ≡ list_any is_fresh (projections_of l.projections)
