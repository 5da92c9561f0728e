use Rattle.std.proofs.Common.{◌≤◌, ◌-◌, length, map, take}
use Rattle.exec_group.specs.Columns.{row_of}
use Rattle.query_run.proofs.Walked.{GoesOn}
use Rattle.query_run.proofs.collected.Collected.take_each.Given as goal

abbrev pub invariant-loop-at : goal.invariant-loop-at
invariant-loop-at l = record {
  within : l.at ≤ length l.places;
  goes : GoesOn l.query l.fn.self l.self (map (row_of l.columns) (take l.at l.places));
}

abbrev pub decreases-loop-at : goal.decreases-loop-at
decreases-loop-at l = length l.places - l.at
