use Rattle.std.proofs.Common.{refl, subst}
use Rattle.std.specs.Prelude.{Option}
use Rattle.name_binder.specs.Refusing.{RefusesBy}
use Rattle.sql_tree.specs.declared.refusal.Refusal.{Refusal}
use Rattle.store_step.proofs.Answered.{memory_answers}
use Rattle.store_step.proofs.Served.{unplanned_holds}
use Rattle.store_step.proofs.Named.{memory_named}
use Rattle.store_step.specs.Works.{Works}
use Rattle.store_step.proofs.Works.{unplanned_idle}
use Rattle.store_step.proofs.stepping.answer.Goals as goal

pub returns-in-Err-clause-answers : goal.returns-in-Err-clause-answers
returns-in-Err-clause-answers g c = λ files state here.
    let s = c.args.statement in
    let same = c.frames_are_of_the_state.ensures.refusal c.args.disk.now c.args.store.now state s here in
    let early = subst (λ (o : Option Refusal). RefusesBy o c.in-Err.fault) same c.in-Err.ensures.refused in
    memory_answers g.D.Disk files s s c.args.store.now c.args.disk.now c.unplanned.result c.in_memory.result state refl c.in_memory.ensures here.sound.database (c.every_image_reopens.ensures c.args.store.now.seen.catalogue c.args.store.now.seen.stores c.args.disk.now state.database here.database)
    (unplanned_holds g.D.Disk files s c.args.store.now c.args.disk.now c.in-Err.fault c.unplanned.result state early c.unplanned.ensures (λ why is. c.early_refusals_stand.ensures.refused state files s why is) here)

pub returns-in-Err-clause-named : goal.returns-in-Err-clause-named
returns-in-Err-clause-named g c = memory_named g.D.Disk c.args.store.now c.args.disk.now c.unplanned.result c.in_memory.result c.in_memory.ensures

pub returns-in-Err-clause-works : goal.returns-in-Err-clause-works
returns-in-Err-clause-works g c =
    unplanned_idle g.D.Disk c.args.store.now c.args.disk.now c.in-Err.fault c.unplanned.result c.in_memory.result (Works c.args.statement c.args.store.now c.args.store.now) c.in_memory.ensures c.unplanned.ensures
