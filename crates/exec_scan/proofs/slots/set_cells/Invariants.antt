use Rattle.std.proofs.Common.{◌≡◌, length, take}
use Rattle.exec_scan.specs.Batches.{row_of}
use Rattle.exec_scan.proofs.slots.set_cells.Given as goal

abbrev pub invariant-loop-c : goal.invariant-loop-c
invariant-loop-c l = record {
  long : length l.row.items ≡ length l.columns;
  done : take l.c l.row.items ≡ row_of (take l.c l.columns) l.i;
}
