use Rattle.std.proofs.Common.{subst, sym, rules}
use Rattle.std.specs.Prelude.{codes, Result}
use Rattle.col_disk.specs.declared.disk.DiskFault.TheVariants.{Memory}
use Rattle.col_disk.specs.declared.disk.StoreFault.{StoreFault}
use Rattle.col_disk.specs.Faults.{store_fault}
use Rattle.db_model.specs.Events.{table_created}
use Rattle.db_model.specs.Numbers.{IsDrawn}
use Rattle.sql_tree.specs.declared.statement.Statement.{Statement}
use Rattle.store_step.specs.declared.answer.Answer.{Answer}
use Rattle.store_step.specs.Arms.{Answers}
use Rattle.store_step.specs.Texts.{Says}
use Rattle.store_step.proofs.Answered.{event_answers, unmade}
use Rattle.store_step.proofs.Doing.{created_event, disk_short, disk_unblamed}
use Rattle.store_step.proofs.Named.{disk_named}
use Rattle.store_step.proofs.events.create_table.Goals as goal

pub returns-in-Err-clause-answers : goal.returns-in-Err-clause-answers
returns-in-Err-clause-answers g c = λ files state here accepted. unmade g.D.Disk files _ c.args.store.now c.args.disk.now state here (c.every_image_reopens.ensures c.args.store.now.seen.catalogue c.args.store.now.seen.stores c.args.disk.now state.database here.database)

pub returns-clause-answers : goal.returns-clause-answers
returns-clause-answers g c = λ files state here accepted.
    let s = Statement.CreateTable c.args.name c.args.columns in
    let made = table_created c.args.name c.args.columns state in
    let says : Says (codes "CREATE TABLE\n") c.printed.result = search rules in
    subst (λ (r : Result Answer StoreFault). Answers g.D.Disk files s c.create_table.new.self c.args.disk.now c.create_table.new.disk r state) (sym c.on_disk.ensures)
    (event_answers g.D.Disk Memory store_fault c.args.store.now c.create_table.new.self c.create_table.result c.printed.result state files s (codes "CREATE TABLE\n") (IsDrawn state made) here says
    (created_event state files c.args.name c.args.columns accepted here.sound (c.a_new_table_is_sound.ensures state c.args.name c.args.columns accepted here.sound) c.an_event_may_draw.ensures)
    disk_short (disk_unblamed c.create_table.result) c.create_table.ensures.same (c.create_table.ensures.does state here accepted))

pub returns-clause-named : goal.returns-clause-named
returns-clause-named g c = disk_named g.D.Disk c.create_table.new.self c.create_table.new.disk c.printed.result c.create_table.result c.on_disk.result c.on_disk.ensures
