use Rattle.std.proofs.Common.{◌≡◌, length}
use Rattle.catch_rows.proofs.alike.are_same_columns.Given as goal

abbrev pub decreases-loop-rest : goal.decreases-loop-rest
decreases-loop-rest l = length l.rest

abbrev pub invariant-loop-rest : goal.invariant-loop-rest
invariant-loop-rest l = l.rest ≡ l.others → l.first ≡ l.second
