use Rattle.std.proofs.Common.{◌≡◌, length}
use Rattle.table_store.specs.Held.{projections_of}
use Rattle.table_store.specs.Changing.{zipped}
use Rattle.table_store.specs.Widening.{CanTake, widened_by}
use Rattle.table_store.proofs.Loops.{Fronts}
use Rattle.table_store.proofs.parts.columns.apply_columns.Given as goal

abbrev pub invariant-loop-part : goal.invariant-loop-part
invariant-loop-part l = record {
  room : Fronts CanTake l.rest.items l.stores;
  rest : zipped widened_by l.rest.items (projections_of l.stores) ≡ zipped widened_by l.fn.ready.items (projections_of l.fn.stores);
}

abbrev pub decreases-loop-part : goal.decreases-loop-part
decreases-loop-part l = length l.rest.items
