use Rattle.std.proofs.Common.{refl, subst, sym, rules}
use Rattle.std.specs.Prelude.{codes, Result}
use Rattle.col_disk.specs.declared.disk.DiskFault.TheVariants.{Memory}
use Rattle.col_disk.specs.declared.disk.StoreFault.{StoreFault}
use Rattle.col_disk.specs.Faults.{store_fault}
use Rattle.db_model.specs.Events.{projection_created}
use Rattle.db_model.specs.Numbers.{IsDrawn}
use Rattle.sql_tree.specs.declared.statement.Statement.{Statement}
use Rattle.statement_plan.specs.declared.plans.Plan.{Plan}
use Rattle.store_step.specs.declared.answer.Answer.{Answer}
use Rattle.store_step.specs.Arms.{Answers}
use Rattle.store_step.specs.Texts.{Says}
use Rattle.store_step.proofs.Answered.{event_answers, unmade}
use Rattle.store_step.proofs.Doing.{disk_short, disk_unblamed, projected_event}
use Rattle.store_step.proofs.Named.{disk_named}
use Rattle.store_step.proofs.shaping.create_projection.Goals as goal

pub create_projection-requires-clause-table : goal.create_projection-requires-clause-table
create_projection-requires-clause-table g c = (c.planned_projections_have_places.ensures.create c.args.store.now c.args.projection c.args.place c.args.shape c.requires).0

pub create_projection-requires-clause-sort : goal.create_projection-requires-clause-sort
create_projection-requires-clause-sort g c = (c.planned_projections_have_places.ensures.create c.args.store.now c.args.projection c.args.place c.args.shape c.requires).1

pub returns-in-Err-clause-answers : goal.returns-in-Err-clause-answers
returns-in-Err-clause-answers g c = λ files state here. unmade g.D.Disk files _ c.args.store.now c.args.disk.now state here (c.every_image_reopens.ensures c.args.store.now.seen.catalogue c.args.store.now.seen.stores c.args.disk.now state.database here.database)

pub returns-clause-answers : goal.returns-clause-answers
returns-clause-answers g c = λ files state here.
    let p = c.args.projection in
    let s = Statement.CreateProjection p in
    let made = projection_created p state in
    let planned = c.frames_are_of_the_state.ensures.plan c.args.disk.now c.args.store.now state s (Plan.CreateProjection c.args.place c.args.shape) here c.requires in
    let says : Says (codes "CREATE PROJECTION\n") c.printed.result = search rules in
    subst (λ (r : Result Answer StoreFault). Answers g.D.Disk files s c.create_projection.new.self c.args.disk.now c.create_projection.new.disk r state) (sym c.on_disk.ensures)
    (event_answers g.D.Disk Memory store_fault c.args.store.now c.create_projection.new.self c.create_projection.result c.printed.result state files s (codes "CREATE PROJECTION\n") (IsDrawn state made) here says
    (projected_event state files p planned.accepted here.sound (c.a_new_projection_is_sound.ensures state p planned.accepted here.sound) c.an_event_may_draw.ensures)
    disk_short (disk_unblamed c.create_projection.result) c.create_projection.ensures.same (c.create_projection.ensures.does state p here planned.accepted refl planned.of))

pub returns-clause-named : goal.returns-clause-named
returns-clause-named g c = disk_named g.D.Disk c.create_projection.new.self c.create_projection.new.disk c.printed.result c.create_projection.result c.on_disk.result c.on_disk.ensures
