use Rattle.std.proofs.Common.{subst, sym, rules}
use Rattle.std.specs.Prelude.{codes, Result}
use Rattle.col_disk.specs.declared.disk.DiskFault.TheVariants.{Memory}
use Rattle.col_disk.specs.declared.disk.StoreFault.{StoreFault}
use Rattle.col_disk.specs.Faults.{store_fault}
use Rattle.db_model.specs.Events.{projection_dropped}
use Rattle.db_model.specs.Numbers.{IsDrawn}
use Rattle.sql_tree.specs.declared.statement.Statement.{Statement}
use Rattle.statement_plan.specs.declared.plans.Plan.{Plan}
use Rattle.store_step.specs.declared.answer.Answer.{Answer}
use Rattle.store_step.specs.Arms.{Answers}
use Rattle.store_step.specs.Texts.{Says}
use Rattle.store_step.proofs.Answered.{event_answers, unmade}
use Rattle.store_step.proofs.Doing.{disk_short, disk_unblamed, bared_event}
use Rattle.store_step.proofs.Named.{disk_named}
use Rattle.store_step.proofs.shaping.drop_projection.Goals as goal

pub drop_projection-requires : goal.drop_projection-requires
drop_projection-requires g c = c.planned_projections_have_places.ensures.drop c.args.store.now c.args.name.now c.args.table c.args.place c.requires

pub returns-in-Err-clause-answers : goal.returns-in-Err-clause-answers
returns-in-Err-clause-answers g c = λ files state here. unmade g.D.Disk files _ c.args.store.now c.args.disk.now state here (c.every_image_reopens.ensures c.args.store.now.seen.catalogue c.args.store.now.seen.stores c.args.disk.now state.database here.database)

pub returns-clause-answers : goal.returns-clause-answers
returns-clause-answers g c = λ files state here.
    let name = c.args.name.now in
    let s = Statement.DropProjection name in
    let made = projection_dropped name state in
    let planned = c.frames_are_of_the_state.ensures.plan c.args.disk.now c.args.store.now state s (Plan.DropProjection c.args.table c.args.place) here c.requires in
    let says : Says (codes "DROP PROJECTION\n") c.printed.result = search rules in
    subst (λ (r : Result Answer StoreFault). Answers g.D.Disk files s c.drop_projection.new.self c.args.disk.now c.drop_projection.new.disk r state) (sym c.on_disk.ensures)
    (event_answers g.D.Disk Memory store_fault c.args.store.now c.drop_projection.new.self c.drop_projection.result c.printed.result state files s (codes "DROP PROJECTION\n") (IsDrawn state made) here says
    (bared_event state files name planned.accepted here.sound (c.projections_may_be_dropped.ensures state name planned.accepted here.sound) c.an_event_may_draw.ensures)
    disk_short (disk_unblamed c.drop_projection.result) c.drop_projection.ensures.same (c.drop_projection.ensures.does state here planned.accepted planned.of))

pub returns-clause-named : goal.returns-clause-named
returns-clause-named g c = disk_named g.D.Disk c.drop_projection.new.self c.drop_projection.new.disk c.printed.result c.drop_projection.result c.on_disk.result c.on_disk.ensures
