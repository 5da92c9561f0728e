use Rattle.std.proofs.Common.{◌∙◌, Option, Some, None, ap, subst}
use Rattle.store_core.specs.Running.{running, working_on, HasWork, Mover, Running}
use Rattle.table_jobs.specs.declared.work.Work.{Work}
use Rattle.store_core.specs.Stepping.{with_mover}
use Rattle.store_core.proofs.WorkSteps.{column_behind, no_column, works_failed, works_not, works_on, works_still}
use Rattle.store_core.proofs.store.Store.work_on.Goals as goal

pub returns-in-Ok-None-clause-works : goal.returns-in-Ok-None-clause-works
returns-in-Ok-None-clause-works g c = λ state here. works_still g.D.Disk c.args.self.now c.next_work.new.self state c.next_work.ensures.rest here c.next_work.ensures.moved

pub returns-in-Ok-None-clause-column : goal.returns-in-Ok-None-clause-column
returns-in-Ok-None-clause-column g c = no_column g.D.Disk c.args.self.now c.next_work.ensures.moved

pub returns-in-Err-clause-works : goal.returns-in-Err-clause-works
returns-in-Err-clause-works g c = λ state here. works_failed g.D.Disk c.args.self.now c.next_work.new.self c.in-Err.fault state here c.next_work.ensures.moved

pub returns-in-Err-clause-column : goal.returns-in-Err-clause-column
returns-in-Err-clause-column g c = no_column g.D.Disk c.args.self.now c.next_work.ensures.moved

pub returns-in-Ok-Some-advance_work-clause-works : goal.returns-in-Ok-Some-advance_work-clause-works
returns-in-Ok-Some-advance_work-clause-works g c = λ state here.
    let work = c.in-Ok-Some-advance_work.work in
    let same = ap (λ (m : Mover). running c.self.inside.tables c.self.inside.txns c.self.inside.current m) c.put_work.ensures ∙ ap (λ (r : Running). with_mover (working_on (Some work) r.mover) r) (c.self.view_is ∙ c.next_work.ensures.rest) in
    let begun = subst (λ (o : Option Work). HasWork g.D.Disk o c.next_work.new.disk) c.in-Ok-Some.field-0-is (c.in-Ok-Some.ensures.begun state here) in
    let has = subst (λ (o : Option Work). HasWork g.D.Disk o c.advance_work.new.disk) c.in-Ok-Some-advance_work.field-0-is (c.in-Ok-Some-advance_work.ensures.goes_on begun) in
    works_on g.D.Disk c.args.self.now c.next_work.new.self _ (Some work) state c.next_work.ensures.rest same here c.next_work.ensures.moved c.advance_work.ensures.stays has

pub returns-in-Ok-Some-advance_work-clause-column : goal.returns-in-Ok-Some-advance_work-clause-column
returns-in-Ok-Some-advance_work-clause-column g c = column_behind g.D.Disk c.args.self.now c.next_work.new.self c.next_work.ensures.rest c.next_work.ensures.moved c.advance_work.ensures.column

pub returns-in-Ok-None-advance_work-clause-works : goal.returns-in-Ok-None-advance_work-clause-works
returns-in-Ok-None-advance_work-clause-works g c = λ state here.
    works_on g.D.Disk c.args.self.now c.next_work.new.self c.next_work.new.self None state c.next_work.ensures.rest c.next_work.ensures.rest here c.next_work.ensures.moved c.advance_work.ensures.stays tt

pub returns-in-Ok-None-advance_work-clause-column : goal.returns-in-Ok-None-advance_work-clause-column
returns-in-Ok-None-advance_work-clause-column g c = column_behind g.D.Disk c.args.self.now c.next_work.new.self c.next_work.ensures.rest c.next_work.ensures.moved c.advance_work.ensures.column

pub returns-in-Err-advance_work-clause-works : goal.returns-in-Err-advance_work-clause-works
returns-in-Err-advance_work-clause-works g c = λ state here. works_not g.D.Disk c.args.self.now c.next_work.new.self c.next_work.new.self c.in-Err-advance_work.fault state c.next_work.ensures.rest here c.next_work.ensures.moved c.advance_work.ensures.stays

pub returns-in-Err-advance_work-clause-column : goal.returns-in-Err-advance_work-clause-column
returns-in-Err-advance_work-clause-column g c = column_behind g.D.Disk c.args.self.now c.next_work.new.self c.next_work.ensures.rest c.next_work.ensures.moved c.advance_work.ensures.column
