use Rattle.std.proofs.Common.{◌≡◌, take}
use Rattle.exec_group.specs.Counted.{counted_each}
use Rattle.exec_group.proofs.kept.count_all.Given as goal

abbrev pub invariant-loop-group : goal.invariant-loop-group
invariant-loop-group l = l.counts.items ≡ counted_each (take l.group-index l.groups) l.fn.counts.items
