use Rattle.std.proofs.Common.{◌≡◌, take}
use Rattle.bag_difference.specs.Walks.{rows_of}
use Rattle.bag_difference.proofs.ordering.with_ranks.Given as goal

abbrev pub invariant-loop-stamped : goal.invariant-loop-stamped
invariant-loop-stamped l = rows_of l.out.items ≡ take l.stamped-index l.rows
