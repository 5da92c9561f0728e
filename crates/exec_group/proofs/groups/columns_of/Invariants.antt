use Rattle.std.proofs.Common.{◌≡◌, [], map, take}
use Rattle.exec_group.specs.Accumulators.{accumulated}
use Rattle.exec_group.specs.Columns.{padded}
use Rattle.exec_group.proofs.groups.columns_of.Given as goal

abbrev pub invariant-loop-a : goal.invariant-loop-a
invariant-loop-a l = l.out.items ≡ map (λ a. padded l.count (accumulated a.kind 0 []) []) (take l.a-index l.aggs)
