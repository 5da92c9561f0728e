use Rattle.std.proofs.Common.{◌≡◌, ◌++◌, ◌+◌, drop}
use Rattle.del_vector.specs.Marks.{epoch_at}
use Rattle.stored_rows.specs.Held.{stamped_from}
use Rattle.audit_model.specs.Rows.{judged_in}
use Rattle.audit_rows.specs.Blocks.{asked_from}
use Rattle.audit_rows.proofs.collecting.add_block.Given as goal

abbrev pub invariant-loop-i : goal.invariant-loop-i
invariant-loop-i l =
    l.out.items ++ judged_in l.epoch l.mark (stamped_from (l.first + l.i) (epoch_at l.vector.marks) (asked_from l.i (drop l.i l.stamps) l.columns))
    ≡ l.fn.out.items ++ judged_in l.epoch l.mark (stamped_from l.first (epoch_at l.vector.marks) (asked_from 0 l.stamps l.columns))
