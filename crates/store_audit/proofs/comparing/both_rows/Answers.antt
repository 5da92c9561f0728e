use Rattle.col_disk.proofs.Moving.{moved_join}
use Rattle.store_audit.proofs.comparing.both_rows.Goals as goal

pub returns-in-Ok-rows_whole-clause-moved : goal.returns-in-Ok-rows_whole-clause-moved
returns-in-Ok-rows_whole-clause-moved g c = moved_join g.D.Disk c.rows_among.ensures.moved c.rows_whole.ensures.moved

pub returns-in-Err-rows_whole-clause-moved : goal.returns-in-Err-rows_whole-clause-moved
returns-in-Err-rows_whole-clause-moved g c = moved_join g.D.Disk c.rows_among.ensures.moved c.rows_whole.ensures.moved
