use Rattle.std.proofs.Common.{◌≤◌}
use Rattle.col_disk.specs.Moved.{Moved as Moves, NoName}
use Rattle.container_writer.specs.Writing.{DataFrom}
use Rattle.table_store.specs.Draining.{GoesOn, IsDraft}
use Rattle.table_store.proofs.draining.move_table.Given as goal

abbrev pub invariant-loop-place : goal.invariant-loop-place
invariant-loop-place g l = record {
  draft : IsDraft l.store l.table l.place l.draft;
  goes_on : GoesOn l.store l.fn.draft l.draft (g.D.Disk.holds l.fn.disk) (g.D.Disk.holds l.disk);
  moved : Moves g.D.Disk (DataFrom l.store.catalogue.next) NoName l.fn.disk l.disk;
  count : g.D.Disk.faults l.fn.disk ≤ g.D.Disk.faults l.disk;
}
