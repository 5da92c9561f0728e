use Rattle.std.proofs.Common.{take}
use Rattle.std.specs.List.{AllZip}
use Rattle.table_store.specs.Held.{projections_of}
use Rattle.table_store.specs.Widening.{CanTake, IsWidening}
use Rattle.table_store.proofs.parts.columns.prepare_columns.Given as goal

abbrev pub invariant-loop-store : goal.invariant-loop-store
invariant-loop-store l = record {
  made : AllZip (IsWidening l.columns l.default) (projections_of (take l.store-index l.stores)) l.ready.items;
  ready : AllZip CanTake l.ready.items (take l.store-index l.stores);
}
