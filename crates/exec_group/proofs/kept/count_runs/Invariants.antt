use Rattle.std.proofs.Common.{◌≡◌, ◌≤◌, ◌-◌, length, take}
use Rattle.exec_group.specs.Counted.{counted_each}
use Rattle.exec_group.proofs.kept.count_runs.Given as goal

abbrev pub invariant-loop-at : goal.invariant-loop-at
invariant-loop-at l = record {
  within : l.at ≤ length l.groups;
  counted : l.counts.items ≡ counted_each (take l.at l.groups) l.fn.counts.items;
}

abbrev pub decreases-loop-at : goal.decreases-loop-at
decreases-loop-at l = length l.groups - l.at
