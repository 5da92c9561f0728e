use Rattle.std.proofs.Common.{◌≡◌, length, map, reverse}
use Rattle.table_store.specs.Draining.{put_all}
use Rattle.table_store.specs.Held.{projections_of}
use Rattle.table_store.proofs.Drained.{AllPlaced}
use Rattle.table_store.proofs.draining.put_all.Given as goal

abbrev pub invariant-loop-one : goal.invariant-loop-one
invariant-loop-one l = record {
  placed : AllPlaced (map projections_of l.tables.items) (reverse l.rest.items);
  rest : put_all (reverse l.rest.items) (map projections_of l.tables.items) ≡ put_all l.fn.moved.items (map projections_of l.fn.tables.items);
}

abbrev pub decreases-loop-one : goal.decreases-loop-one
decreases-loop-one l = length l.rest.items
