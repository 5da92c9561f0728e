use Rattle.std.proofs.Common.{◌≡◌, length, take}
use Rattle.exec_scan.proofs.slots.set_values.Given as goal

abbrev pub invariant-loop-c : goal.invariant-loop-c
invariant-loop-c l = record {
  long : length l.row.items ≡ length l.values;
  done : take l.c l.row.items ≡ take l.c l.values;
}
