use Rattle.wanted_rows.specs.Wanted.{need_in}
use Rattle.wanted_rows.specs.Picked.{PicksBefore, asked_of, del_at}
use Rattle.wanted_rows.proofs.picking.pick.Given as goal

abbrev pub invariant-loop-i : goal.invariant-loop-i
invariant-loop-i l = PicksBefore l.i (del_at l.rows) (asked_of l.rows) l.places.items (need_in l.fn.wants) (need_in l.wants)
