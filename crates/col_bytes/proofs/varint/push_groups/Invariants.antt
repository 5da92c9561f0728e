use Rattle.col_bytes.proofs.Pushed.{Pushed}
use Rattle.col_bytes.proofs.varint.push_groups.Given as goal

abbrev pub invariant-loop-rest : goal.invariant-loop-rest
invariant-loop-rest l = Pushed l.fn.out.items l.out.items l.n l.rest

abbrev pub decreases-loop-rest : goal.decreases-loop-rest
decreases-loop-rest l = l.rest
