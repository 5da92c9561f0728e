use Rattle.std.proofs.Common.{◌≡◌, ◌+◌, rules, subst, sym}
use Rattle.container_writer.proofs.Marks.{AreMarksOf, marks_skip, marks_add}
use Rattle.container_writer.proofs.marking.vector_of.Goals.{in-Some+in_ok-add_mark-in-Some, in-None}
use Rattle.container_writer.proofs.marking.vector_of.Goals as goal

pub loop-i-preserved : goal.loop-i-preserved
loop-i-preserved c =
    elim c.match-row.branch [
      | in-Some+in_ok-add_mark-in-Some w ↦
          marks_add c.args.rows.now c.loop-i.i c.index-rows-i.result w.in-Some.epoch c.loop-i.vector.marks c.match-row.vector.marks c.loop-i-test.true c.index-rows-i.is (search rules) (search rules) c.loop-i.invariant
      | in-None w ↦
          let same : c.match-row.vector.marks ≡ c.loop-i.vector.marks = search rules in
          subst (AreMarksOf c.args.rows.now (c.loop-i.i + 1)) (sym same) (marks_skip c.args.rows.now c.loop-i.i c.index-rows-i.result c.loop-i.vector.marks c.loop-i-test.true c.index-rows-i.is (search rules) c.loop-i.invariant)
    ]
