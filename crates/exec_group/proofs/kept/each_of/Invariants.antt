use Rattle.std.proofs.Common.{◌≡◌, take}
use Rattle.exec_group.specs.Counted.{counts_as}
use Rattle.exec_group.proofs.kept.each_of.Given as goal

abbrev pub invariant-loop-n : goal.invariant-loop-n
invariant-loop-n l = l.out.items ≡ counts_as (take l.n-index l.counts)
