use Rattle.col_disk.proofs.Moving.{moved_none}
use Rattle.table_store.proofs.Unblamed.{part_unblamed}
use Rattle.table_store.proofs.part.marks_for.Goals as goal

pub returns-then-is_empty-clause-moved : goal.returns-then-is_empty-clause-moved
returns-then-is_empty-clause-moved g c = moved_none g.D.Disk c.args.disk.now

pub returns-in-Err-clause-moved : goal.returns-in-Err-clause-moved
returns-in-Err-clause-moved g c = moved_none g.D.Disk c.args.disk.now

pub returns-in-Err-prepare_marks-clause-unblamed : goal.returns-in-Err-prepare_marks-clause-unblamed
returns-in-Err-prepare_marks-clause-unblamed g c = λ m told fresh readable. part_unblamed m (g.D.Disk.holds c.args.disk.now) c.args.store.now.stored c.in-Err-prepare_marks.fault told fresh readable c.in-Err-prepare_marks.ensures.blamed
