use Rattle.std.proofs.Common.{sym, subst}
use Rattle.std.proofs.lemmas.Result.{IfErr-weaker}
use Rattle.catalog_types.specs.declared.catalogue.Projection.{Projection}
use Rattle.col_disk.proofs.Moving.{moved_join, moved_none, moved_read}
use Rattle.stored_rows.specs.Held.{Holds}
use Rattle.table_store.proofs.Unblamed.{load_unblamed}
use Rattle.catch_rows.specs.Sharing.{with_containers}
use Rattle.catch_rows.proofs.Blames.{loaded_unblamed}
use Rattle.catch_rows.proofs.held.rows_in.Goals as goal

pub returns-in-Err-clause-moved : goal.returns-in-Err-clause-moved
returns-in-Err-clause-moved g c = moved_none g.D.Disk c.args.disk.now

pub returns-in-Err-load-clause-unblamed : goal.returns-in-Err-load-clause-unblamed
returns-in-Err-load-clause-unblamed g c = λ m rows told fresh held.
    load_unblamed m (g.D.Disk.holds c.args.disk.now) c.in-Ok.part rows c.in-Err-load.fault told (subst (λ (p : Projection). Holds m p rows) (sym c.in-Ok.ensures) held) c.in-Err-load.ensures.blamed

pub returns-in-Err-load-clause-moved : goal.returns-in-Err-load-clause-moved
returns-in-Err-load-clause-moved g c = moved_read g.D.Disk c.in-Err-load.ensures.looks

pub returns-clause-unblamed : goal.returns-clause-unblamed
returns-clause-unblamed g c =
    IfErr-weaker c.stamped.result _ _ (λ fault blames. λ m rows told fresh held.
    loaded_unblamed c.what_is_read_is_stored.ensures.stored m (g.D.Disk.holds c.args.disk.now) (g.D.Disk.holds c.load.new.disk) (with_containers c.args.containers.items c.args.entry.now) c.in-Ok.part c.in-Ok-load.store.stored rows fault
    c.in-Ok-load.ensures.looks.contents c.in-Ok.ensures c.in-Ok-load.ensures.entry (c.in-Ok-load.ensures.loaded m told) told fresh held blames) c.stamped.ensures.blamed

pub returns-clause-moved : goal.returns-clause-moved
returns-clause-moved g c = moved_join g.D.Disk (moved_read g.D.Disk c.in-Ok-load.ensures.looks) c.stamped.ensures.moved
