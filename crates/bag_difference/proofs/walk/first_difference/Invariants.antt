use Rattle.std.proofs.Common.{◌≡◌, length}
use Rattle.bag_difference.specs.Walks.{first_apart, rows_of}
use Rattle.bag_difference.proofs.walk.first_difference.Given as goal

abbrev pub decreases-loop-first : goal.decreases-loop-first
decreases-loop-first l = length l.first

abbrev pub invariant-loop-first : goal.invariant-loop-first
invariant-loop-first l = first_apart (rows_of l.first) (rows_of l.second) ≡ first_apart (rows_of l.xs) (rows_of l.ys)
