use Rattle.std.proofs.Common.{sym, subst}
use Rattle.std.specs.Prelude.{Option, Some}
use Rattle.common_laws.specs.Maps.{Contents}
use Rattle.col_disk.proofs.Moving.{moved_join, moved_read}
use Rattle.moveout_job.specs.OnDisk.{KeepsStored}
use Rattle.col_disk.specs.declared.disk.StoreFault.{StoreFault}
use Rattle.proj_store.specs.Reading.{BlamesLoad}
use Rattle.table_store.proofs.Moves.{disk_loads, written_blamed}
use Rattle.table_store.proofs.Unblamed.{written_unblamed}
use Rattle.table_store.proofs.draining.write_out.Goals as goal

pub returns-in-Ok-load-clause-rows : goal.returns-in-Ok-load-clause-rows
returns-in-Ok-load-clause-rows g c = subst (λ (o : Option Contents). KeepsStored c.args.next c.args.store.now.stored c.in-Ok.out.entry (g.D.Disk.holds c.args.disk.now) o) (sym c.load.ensures.looks.contents) c.in-Ok.ensures.held

pub returns-in-Ok-load-clause-moved : goal.returns-in-Ok-load-clause-moved
returns-in-Ok-load-clause-moved g c = moved_join g.D.Disk c.moveout.ensures.moved (moved_read g.D.Disk c.load.ensures.looks)

pub returns-in-Err-load-clause-moved : goal.returns-in-Err-load-clause-moved
returns-in-Err-load-clause-moved g c = moved_join g.D.Disk c.moveout.ensures.moved (moved_read g.D.Disk c.load.ensures.looks)

pub returns-in-Err-load-clause-unblamed : goal.returns-in-Err-load-clause-unblamed
returns-in-Err-load-clause-unblamed g c = λ m n was now fresh readable below.
    written_unblamed m n c.args.next c.args.store.now.stored c.in-Ok.out.entry c.in-Ok-entry_copy.copy (g.D.Disk.holds c.args.disk.now) (g.D.Disk.holds c.moveout.new.disk) (g.D.Disk.holds c.load.new.disk) c.in-Err-load.fault
    fresh below c.in-Ok.ensures.held c.in-Ok-entry_copy.ensures c.in-Err-load.ensures.blamed c.load.ensures.looks.contents was now readable

pub returns-in-Err-clause-blamed : goal.returns-in-Err-clause-blamed
returns-in-Err-clause-blamed g c = λ m told.
    subst (λ (f : StoreFault). BlamesLoad c.args.store.now.stored.entry.containers (Some m) f) (sym c.from.ensures) (disk_loads c.args.store.now.stored.entry.containers (Some m) c.in-Err.fault)

pub returns-in-Err-load-clause-blamed : goal.returns-in-Err-load-clause-blamed
returns-in-Err-load-clause-blamed g c = λ m told.
    written_blamed c.in-Ok.out.next c.args.store.now.stored c.in-Ok.out.entry c.in-Ok-entry_copy.copy (g.D.Disk.holds c.moveout.new.disk) (g.D.Disk.holds c.load.new.disk) c.in-Err-load.fault
    c.in-Ok.ensures.vectors c.in-Ok-entry_copy.ensures c.in-Err-load.ensures.blamed c.load.ensures.looks.contents m told
