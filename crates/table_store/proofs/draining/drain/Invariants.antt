use Rattle.std.proofs.Common.{◌≤◌}
use Rattle.col_disk.specs.Moved.{Moved as Moves, NoName}
use Rattle.container_writer.specs.Writing.{DataFrom}
use Rattle.table_store.specs.Draining.{GoesOn, IsDraft}
use Rattle.table_store.proofs.draining.drain.Given as goal

abbrev pub invariant-loop-table : goal.invariant-loop-table
invariant-loop-table g l = record {
  draft : IsDraft l.store l.table 0 l.draft;
  goes_on : GoesOn l.store l.initial.draft l.draft (g.D.Disk.holds l.fn.disk) (g.D.Disk.holds l.disk);
  moved : Moves g.D.Disk (DataFrom l.store.catalogue.next) NoName l.fn.disk l.disk;
  count : g.D.Disk.faults l.fn.disk ≤ g.D.Disk.faults l.disk;
}
