use Rattle.std.proofs.Common.{◌≤◌, subst, sym, rules, arith}
use Rattle.std.specs.Prelude.{codes, Result}
use Rattle.col_disk.specs.declared.disk.DiskFault.TheVariants.{Memory}
use Rattle.col_disk.specs.declared.disk.StoreFault.{StoreFault}
use Rattle.col_disk.specs.Faults.{store_fault}
use Rattle.db_model.specs.Epochs.{rises}
use Rattle.db_model.specs.Leaving.{MarkLeaves}
use Rattle.db_model.specs.Printing.{counted_line}
use Rattle.sql_tree.specs.declared.statement.Statement.{Statement}
use Rattle.store_step.specs.declared.answer.Answer.{Answer}
use Rattle.store_step.specs.Arms.{Answers}
use Rattle.store_step.specs.Marks.{IsMarkOf}
use Rattle.store_step.specs.Texts.{Says}
use Rattle.store_step.proofs.Answered.{event_answers, unmade}
use Rattle.store_step.proofs.Doing.{disk_short, disk_unblamed}
use Rattle.store_step.proofs.Marked.{mark_within, marked_event}
use Rattle.store_step.proofs.Named.{disk_named}
use Rattle.store_step.proofs.marking.set_mark.Goals as goal

pub returns-in-Err-clause-answers : goal.returns-in-Err-clause-answers
returns-in-Err-clause-answers g c = λ files state f here is free. unmade g.D.Disk files _ c.args.store.now c.args.disk.now state here (c.every_image_reopens.ensures c.args.store.now.seen.catalogue c.args.store.now.seen.stores c.args.disk.now state.database here.database)

pub returns-clause-answers : goal.returns-clause-answers
returns-clause-answers g c = λ files state f here is free.
    let epoch = c.held_mark-epoch.result in
    let s = Statement.Call f in
    let within = mark_within state f c.args.mark is free in
    let good = c.last_good_is_reached.ensures here.database.files c.args.store.now.seen.catalogue c.args.store.now.seen.stores state.database here.database.are in
    let seen = c.last_good.ensures in
    let le : c.args.mark ≤ c.last_good.result = omega (arith, within, good, seen) in
    let is_epoch : IsMarkOf state f epoch = subst (IsMarkOf state f) (sym (c.held_mark-epoch.ensures le)) is in
    let epoch_within = mark_within state f epoch is_epoch free in
    let says : Says (counted_line (codes "AHM ") epoch) c.printed.result = search rules in
    subst (λ (r : Result Answer StoreFault). Answers g.D.Disk files s c.set_mark.new.self c.args.disk.now c.set_mark.new.disk r state) (sym c.on_disk.ensures)
    (event_answers g.D.Disk Memory store_fault c.args.store.now c.set_mark.new.self c.set_mark.result c.printed.result state files s (counted_line (codes "AHM ") epoch) (MarkLeaves (rises epoch state.database) epoch state) here says
    (marked_event state files f epoch is_epoch free here.sound (c.marks_up_to_the_last_good_epoch_are_sound.ensures state epoch epoch_within here.sound) c.an_event_may_draw.ensures)
    disk_short (disk_unblamed c.set_mark.result) c.set_mark.ensures.same (c.set_mark.ensures.does state here epoch_within))

pub returns-clause-named : goal.returns-clause-named
returns-clause-named g c = disk_named g.D.Disk c.set_mark.new.self c.set_mark.new.disk c.printed.result c.set_mark.result c.on_disk.result c.on_disk.ensures
