use Rattle.std.proofs.Common.{◌∙◌, ap, List, ℕ, refl, subst, sym}
use Rattle.std.specs.Prelude.{Option, Result}
use Rattle.name_binder.specs.Refusing.{RefusesBy}
use Rattle.sql_tree.specs.declared.refusal.Refusal.{Refusal}
use Rattle.sql_tree.specs.declared.statement.Statement.{Statement}
use Rattle.sql_tree.specs.Spells.{Spells}
use Rattle.sql_words.specs.Symbols.{symbols_of}
use Rattle.db_model.specs.Refusals.{copy_table_refusal}
use Rattle.db_model.specs.State.{State}
use Rattle.store_step.specs.declared.answer.Answer.{Answer}
use Rattle.store_step.specs.declared.answer.StepFault.{StepFault}
use Rattle.store_step.specs.Steps.{Steps}
use Rattle.store_step.proofs.Answered.{memory_answers}
use Rattle.store_step.proofs.Served.{unplanned_holds}
use Rattle.store_step.proofs.Stepped.{steps_of}
use Rattle.store_step.proofs.Named.{memory_text_named}
use Rattle.store_step.proofs.loading.copy.Goals as goal

pub returns-in-Ok-clause-steps : goal.returns-in-Ok-clause-steps
returns-in-Ok-clause-steps g c = λ text there state spelled told here.
    c.load_file.ensures.steps text there state (subst (λ (n : List ℕ). Spells (symbols_of text) (Statement.Copy n c.args.file.now)) (sym c.as_slice.ensures) spelled) told here

pub returns-in-Err-clause-steps : goal.returns-in-Err-clause-steps
returns-in-Err-clause-steps g c = λ text there state spelled told here.
    let r = c.args.store.now in
    let table = c.args.table.now in
    let s = Statement.Copy table c.args.file.now in
    let same = ap (λ (f : State). copy_table_refusal f table) c.frame.ensures ∙ c.frames_are_of_the_state.ensures.refusal c.args.disk.now r state s here in
    let early = subst (λ (o : Option Refusal). RefusesBy o c.in-Err.fault) same c.in-Err.ensures.refused in
    subst (λ (o : Result Answer StepFault). Steps g.D.Disk there text r c.args.disk.now c.args.disk.now o state) (sym c.of_text.ensures)
    (steps_of g.D.Disk there text s r c.in_memory.result state spelled
    (memory_answers g.D.Disk there s s r c.args.disk.now c.unplanned.result c.in_memory.result state refl c.in_memory.ensures here.sound.database (c.every_image_reopens.ensures r.seen.catalogue r.seen.stores c.args.disk.now state.database here.database)
    (unplanned_holds g.D.Disk there s r c.args.disk.now c.in-Err.fault c.unplanned.result state early c.unplanned.ensures (λ why is. c.early_refusals_stand.ensures.refused state there s why is) here)))

pub returns-in-Err-clause-named : goal.returns-in-Err-clause-named
returns-in-Err-clause-named g c = memory_text_named g.D.Disk c.args.store.now c.args.disk.now c.unplanned.result c.in_memory.result c.of_text.result c.of_text.ensures c.in_memory.ensures
