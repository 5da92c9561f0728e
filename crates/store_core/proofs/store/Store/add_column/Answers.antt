use Rattle.std.proofs.Common.{◌∙◌, refl, ap}
use Rattle.std.specs.Prelude.{Ok, Err}
use Rattle.col_disk.specs.declared.disk.DiskFault.TheVariants.{Memory}
use Rattle.db_model.specs.Events.{column_added}
use Rattle.db_model.specs.Numbers.{IsDrawn}
use Rattle.store_core.specs.Running.{job_dropped, running, Mover}
use Rattle.store_core.proofs.Added.{addition_does}
use Rattle.store_core.proofs.Doing.{does_failed}
use Rattle.store_core.proofs.store.Store.add_column.Goals as goal

pub returns-in-Err-clause-does : goal.returns-in-Err-clause-does
returns-in-Err-clause-does g c = λ state a here accepted at column default.
    let mover = c.self.inside.mover in
    does_failed g.D.Disk Memory c.args.self.now (running c.add_column.new.self c.self.inside.txns c.self.inside.current (job_dropped mover)) _ c.in-Err.fault state (IsDrawn state (column_added a state))
    (addition_does g.D.Disk Memory c.self.inside.tables c.add_column.new.self c.self.inside.txns c.self.inside.current mover (job_dropped mover) c.args.self.now c.args.table a c.args.column.now c.args.default.now (Err c.in-Err.fault) state
    c.self.view_is here (c.a_new_column_is_sound.ensures state a accepted here.sound) at column default refl refl refl c.in-Err.ensures.made c.in-Err.ensures.drawn)

pub returns-clause-does : goal.returns-clause-does
returns-clause-does g c = λ state a here accepted at column default.
    addition_does g.D.Disk Memory c.self.inside.tables c.add_column.new.self c.self.inside.txns c.self.inside.current c.self.inside.mover c.drop_job.new.self c.args.self.now c.args.table a c.args.column.now c.args.default.now (Ok tt) state
    c.self.view_is here (c.a_new_column_is_sound.ensures state a accepted here.sound) at column default (ap (λ (m : Mover). m.asked) c.drop_job.ensures ∙ ap (λ (m : Mover). m.asked) c.drop_work.ensures) (ap (λ (m : Mover). m.busy) c.drop_job.ensures) (ap (λ (m : Mover). m.work) c.drop_job.ensures) c.in-Ok.ensures.made c.in-Ok.ensures.drawn
