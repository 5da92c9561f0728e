use Rattle.container_writer.proofs.Marks.{AreMarksOf}
use Rattle.container_writer.proofs.marking.vector_of.Given as goal

abbrev pub invariant-loop-i : goal.invariant-loop-i
invariant-loop-i l = AreMarksOf l.rows l.i l.vector.marks
