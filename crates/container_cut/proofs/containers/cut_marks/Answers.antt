use Rattle.col_disk.proofs.Moving.{moved_none, moved_still, moved_join, moved_wider}
use Rattle.container_cut.proofs.Cuts.{marks_within, number_free}
use Rattle.container_cut.proofs.Joins.{marks_between}
use Rattle.container_cut.proofs.containers.cut_marks.Goals as goal

pub returns-then-next-ge-MOST_NUMBERS-clause-moved : goal.returns-then-next-ge-MOST_NUMBERS-clause-moved
returns-then-next-ge-MOST_NUMBERS-clause-moved g c = moved_none g.D.Disk c.args.disk.now

pub returns-in-Err-clause-moved : goal.returns-in-Err-clause-moved
returns-in-Err-clause-moved g c = moved_still g.D.Disk c.vector_of.ensures.moved

pub returns-in-Err-cut-clause-moved : goal.returns-in-Err-cut-clause-moved
returns-in-Err-cut-clause-moved g c = moved_still g.D.Disk c.vector_of.ensures.moved

pub write_vector-requires-clause-within : goal.write_vector-requires-clause-within
write_vector-requires-clause-within g c = marks_within c.args.container.now c.args.epoch c.in-Ok.marks.marks c.in-Ok-cut.left.marks c.in-Ok-cut.ensures c.in-Ok.ensures.within

pub returns-in-Ok-write_vector-clause-cut : goal.returns-in-Ok-write_vector-clause-cut
returns-in-Ok-write_vector-clause-cut g c =
    marks_between g.D.Disk c.args.shape.now c.args.epoch c.args.next c.args.container.now c.in-Ok-write_vector.container c.in-Ok.marks.marks c.in-Ok-cut.left.marks c.requires.inserted c.requires.below
    c.vector_of.ensures.kept c.write_vector.ensures.moved c.in-Ok.ensures.found c.in-Ok-cut.ensures c.in-Ok-write_vector.ensures.entry c.in-Ok-write_vector.ensures.held

pub returns-in-Ok-write_vector-clause-moved : goal.returns-in-Ok-write_vector-clause-moved
returns-in-Ok-write_vector-clause-moved g c =
    moved_join g.D.Disk (moved_still g.D.Disk c.vector_of.ensures.moved) (moved_wider g.D.Disk (number_free c.args.next) (λ q is. is) c.write_vector.ensures.moved)

pub returns-clause-moved : goal.returns-clause-moved
returns-clause-moved g c = moved_join g.D.Disk (moved_still g.D.Disk c.vector_of.ensures.moved) (moved_wider g.D.Disk (number_free c.args.next) (λ q is. is) c.write_vector.ensures.moved)
