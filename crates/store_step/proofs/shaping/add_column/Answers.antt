use Rattle.std.proofs.Common.{◌≡◌, refl, subst, sym, rules}
use Rattle.std.specs.Prelude.{codes, Result}
use Rattle.col_disk.specs.declared.disk.DiskFault.TheVariants.{Memory}
use Rattle.col_disk.specs.declared.disk.StoreFault.{StoreFault}
use Rattle.col_disk.specs.Faults.{store_fault}
use Rattle.db_model.specs.Events.{column_added}
use Rattle.db_model.specs.Numbers.{IsDrawn}
use Rattle.sql_tree.specs.declared.statement.Statement.{Statement}
use Rattle.statement_plan.specs.declared.plans.Plan.{Plan}
use Rattle.store_core.proofs.Planned.{some_below}
use Rattle.store_step.specs.declared.answer.Answer.{Answer}
use Rattle.store_step.specs.Arms.{Answers}
use Rattle.store_step.specs.Texts.{Says}
use Rattle.store_step.proofs.Answered.{event_answers, unmade}
use Rattle.store_step.proofs.Doing.{added_event, disk_short, disk_unblamed, stands_at}
use Rattle.store_step.proofs.Named.{disk_named}
use Rattle.store_step.proofs.shaping.add_column.Goals as goal

pub add_column-requires : goal.add_column-requires
add_column-requires g c =
    let tables = c.args.store.now.seen.catalogue.tables in
    some_below (λ t. t.name ≡ c.args.add.now.table) tables c.args.place (stands_at c.args.add.now.table tables c.args.place c.requires.of.0)

pub returns-in-Err-clause-answers : goal.returns-in-Err-clause-answers
returns-in-Err-clause-answers g c = λ files state here. unmade g.D.Disk files _ c.args.store.now c.args.disk.now state here (c.every_image_reopens.ensures c.args.store.now.seen.catalogue c.args.store.now.seen.stores c.args.disk.now state.database here.database)

pub returns-clause-answers : goal.returns-clause-answers
returns-clause-answers g c = λ files state here.
    let a = c.args.add.now in
    let s = Statement.AddColumn a in
    let made = column_added a state in
    let planned = c.frames_are_of_the_state.ensures.plan c.args.disk.now c.args.store.now state s (Plan.AddColumn c.args.place c.args.default.now) here c.requires in
    let says : Says (codes "ALTER TABLE\n") c.printed.result = search rules in
    subst (λ (r : Result Answer StoreFault). Answers g.D.Disk files s c.add_column.new.self c.args.disk.now c.add_column.new.disk r state) (sym c.on_disk.ensures)
    (event_answers g.D.Disk Memory store_fault c.args.store.now c.add_column.new.self c.add_column.result c.printed.result state files s (codes "ALTER TABLE\n") (IsDrawn state made) here says
    (added_event state files a planned.accepted here.sound (c.a_new_column_is_sound.ensures state a planned.accepted here.sound) c.an_event_may_draw.ensures)
    disk_short (disk_unblamed c.add_column.result) c.add_column.ensures.same (c.add_column.ensures.does state a here planned.accepted planned.of.0 refl (sym planned.of.1)))

pub returns-clause-named : goal.returns-clause-named
returns-clause-named g c = disk_named g.D.Disk c.add_column.new.self c.add_column.new.disk c.printed.result c.add_column.result c.on_disk.result c.on_disk.ensures
