use Rattle.buddy_link.proofs.Pended.{rows_valid}
use Rattle.buddy_link.proofs.replay.pend_one.Goals as goal

pub change_rows-requires : goal.change_rows-requires
change_rows-requires c = rows_valid c.inserts-inserts.result.now c.in_ok-rows.rows.items c.in_ok-rows.ensures c.inserts-inserts.ensures.valid
