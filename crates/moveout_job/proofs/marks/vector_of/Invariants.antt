use Rattle.moveout_job.proofs.Joined.{HasFirst}
use Rattle.moveout_job.proofs.marks.vector_of.Given as goal

abbrev pub invariant-loop-mark : goal.invariant-loop-mark
invariant-loop-mark l = HasFirst l.rows l.marks l.mark-index l.vector.marks
