use Rattle.std.proofs.Common.{◌≡◌, ◌≤◌, map, length}
use Rattle.std.specs.List.{AllZip}
use Rattle.table_store.specs.Held.{projections_of}
use Rattle.table_store.specs.Changing.{CanApply, tables_applied}
use Rattle.table_store.specs.Committing.{ready_with}
use Rattle.table_store.proofs.Loops.{Fronts}
use Rattle.table_store.proofs.committing.apply_tables.Given as goal

abbrev pub invariant-loop-parts : goal.invariant-loop-parts
invariant-loop-parts l = record {
  short : length l.rest.items ≤ length l.entries;
  room : Fronts (AllZip CanApply) (ready_with l.changes l.entries l.rest.items) l.tables;
  rest : tables_applied l.epoch (ready_with l.changes l.entries l.rest.items) (map projections_of l.tables) ≡ tables_applied l.epoch (ready_with l.fn.changes l.entries l.fn.ready.items) (map projections_of l.fn.tables);
}

abbrev pub decreases-loop-parts : goal.decreases-loop-parts
decreases-loop-parts l = length l.rest.items
