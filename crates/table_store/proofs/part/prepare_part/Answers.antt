use Rattle.std.proofs.Common.{rules}
use Rattle.col_disk.proofs.Moving.{moved_none}
use Rattle.table_store.proofs.Readied.{part_ready}
use Rattle.table_store.proofs.part.prepare_part.Goals as goal

pub returns-then-not-entry-clause-moved : goal.returns-then-not-entry-clause-moved
returns-then-not-entry-clause-moved g c = moved_none g.D.Disk c.args.disk.now

pub returns-in-Err-clause-unblamed : goal.returns-in-Err-clause-unblamed
returns-in-Err-clause-unblamed g c = λ m told readable. c.in-Err.ensures.unblamed m told (search rules) readable

pub returns-in-Ok-rows_for-clause-prepared : goal.returns-in-Ok-rows_for-clause-prepared
returns-in-Ok-rows_for-clause-prepared g c = λ m told.
    part_ready m c.args.rows.now c.args.deletes.now c.args.store.now.stored _ _ (search rules) c.in-Ok.ensures.stored c.in-Ok-rows_for.ensures.rows (c.in-Ok.ensures.found m told)
