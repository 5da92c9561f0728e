use Rattle.std.proofs.Common.{◌≡◌, ◌++◌, length}
use Rattle.del_vector.specs.Marks.{epoch_at}
use Rattle.stored_rows.specs.Held.{stamped_from}
use Rattle.container_cut.proofs.rows.with_marks.Given as goal

abbrev pub invariant-loop-asked : goal.invariant-loop-asked
invariant-loop-asked l =
    l.out.items ++ stamped_from (length l.out.items) (epoch_at l.marks.marks) l.asked-iterator.rest.items ≡ stamped_from 0 (epoch_at l.marks.marks) l.fn.rows.items
