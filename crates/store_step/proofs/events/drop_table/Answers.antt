use Rattle.std.proofs.Common.{subst, sym, rules}
use Rattle.std.specs.Prelude.{codes, Result}
use Rattle.col_disk.specs.declared.disk.DiskFault.TheVariants.{Memory}
use Rattle.col_disk.specs.declared.disk.StoreFault.{StoreFault}
use Rattle.col_disk.specs.Faults.{store_fault}
use Rattle.db_model.specs.Events.{table_dropped}
use Rattle.db_model.specs.Numbers.{IsDrawn}
use Rattle.sql_tree.specs.declared.statement.Statement.{Statement}
use Rattle.store_step.specs.declared.answer.Answer.{Answer}
use Rattle.store_step.specs.Arms.{Answers}
use Rattle.store_step.specs.Texts.{Says}
use Rattle.store_step.proofs.Answered.{event_answers, unmade}
use Rattle.store_step.proofs.Doing.{disk_short, disk_unblamed, dropped_event, stands_at}
use Rattle.store_step.proofs.Named.{disk_named}
use Rattle.store_step.proofs.events.drop_table.Goals as goal

pub drop_table-requires : goal.drop_table-requires
drop_table-requires g c = stands_at c.args.name.now c.args.store.now.seen.catalogue.tables c.args.place c.requires

pub returns-in-Err-clause-answers : goal.returns-in-Err-clause-answers
returns-in-Err-clause-answers g c = λ files state here accepted. unmade g.D.Disk files _ c.args.store.now c.args.disk.now state here (c.every_image_reopens.ensures c.args.store.now.seen.catalogue c.args.store.now.seen.stores c.args.disk.now state.database here.database)

pub returns-clause-answers : goal.returns-clause-answers
returns-clause-answers g c = λ files state here accepted.
    let s = Statement.DropTable c.args.name.now in
    let made = table_dropped c.args.name.now state in
    let says : Says (codes "DROP TABLE\n") c.printed.result = search rules in
    subst (λ (r : Result Answer StoreFault). Answers g.D.Disk files s c.drop_table.new.self c.args.disk.now c.drop_table.new.disk r state) (sym c.on_disk.ensures)
    (event_answers g.D.Disk Memory store_fault c.args.store.now c.drop_table.new.self c.drop_table.result c.printed.result state files s (codes "DROP TABLE\n") (IsDrawn state made) here says
    (dropped_event state files c.args.name.now accepted here.sound (c.tables_may_be_dropped.ensures state c.args.name.now accepted here.sound) c.an_event_may_draw.ensures)
    disk_short (disk_unblamed c.drop_table.result) c.drop_table.ensures.same (c.drop_table.ensures.does state here accepted))

pub returns-clause-named : goal.returns-clause-named
returns-clause-named g c = disk_named g.D.Disk c.drop_table.new.self c.drop_table.new.disk c.printed.result c.drop_table.result c.on_disk.result c.on_disk.ensures
