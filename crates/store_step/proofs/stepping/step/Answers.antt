use Rattle.std.proofs.Common.{◌∙◌, ap, subst, sym}
use Rattle.std.specs.Prelude.{Result}
use Rattle.col_disk.specs.declared.disk.StoreFault.{StoreFault}
use Rattle.sql_words.specs.Symbols.{symbols_of}
use Rattle.sql_tree.specs.declared.refusal.Refusal.{Refusal}
use Rattle.sql_tree.specs.Phrases.{IsPlace}
use Rattle.sql_tree.specs.Spells.{Spells}
use Rattle.store_step.specs.declared.answer.Answer.{Answer}
use Rattle.store_step.specs.declared.answer.StepFault.{StepFault}
use Rattle.store_step.specs.declared.reading.Reading.{Reading}
use Rattle.store_step.specs.Arms.{of_text}
use Rattle.store_step.specs.Steps.{Steps}
use Rattle.store_step.specs.Texts.{IsReading}
use Rattle.store_step.proofs.Stepped.{unread_steps, wrong_steps}
use Rattle.store_step.proofs.Named.{memory_text_named}
use Rattle.store_step.specs.Works.{WorksOf}
use Rattle.store_step.proofs.Works.{text_works, wrong_idle}
use Rattle.store_step.proofs.stepping.step.Goals as goal

pub returns-in-Ok-Says-clause-steps : goal.returns-in-Ok-Says-clause-steps
returns-in-Ok-Says-clause-steps g c = λ there state told here.
    let read : IsReading c.args.text.now (Reading.Says c.in-Ok-Says.statement) = rw c.in-Ok-Says.field-0-is at c.in-Ok-Says.ensures in
    c.run.ensures.steps c.args.text.now there state read.0 told here

pub returns-in-Ok-Wrong-clause-steps : goal.returns-in-Ok-Wrong-clause-steps
returns-in-Ok-Wrong-clause-steps g c = λ there state told here.
    let wrong : IsPlace Spells (symbols_of c.args.text.now) c.in-Ok-Wrong.place = rw c.in-Ok-Wrong.field-0-is at c.in-Ok-Wrong.ensures in
    subst (λ (r : Result Answer StepFault). Steps g.D.Disk there c.args.text.now c.args.store.now c.args.disk.now c.args.disk.now r state) (sym (c.of_text.ensures ∙ ap (λ (r : Result Answer StoreFault). of_text r) c.in_memory.ensures))
    (wrong_steps g.D.Disk there c.args.text.now c.args.store.now c.args.disk.now c.in-Ok-Wrong.place c.refused.result state wrong c.refused.ensures here (c.every_image_reopens.ensures c.args.store.now.seen.catalogue c.args.store.now.seen.stores c.args.disk.now state.database here.database))

pub returns-in-Err-clause-steps : goal.returns-in-Err-clause-steps
returns-in-Err-clause-steps g c = λ there state told here. unread_steps g.D.Disk there c.args.text.now c.args.store.now c.args.disk.now state here (c.every_image_reopens.ensures c.args.store.now.seen.catalogue c.args.store.now.seen.stores c.args.disk.now state.database here.database)

pub returns-in-Ok-Wrong-clause-named : goal.returns-in-Ok-Wrong-clause-named
returns-in-Ok-Wrong-clause-named g c = memory_text_named g.D.Disk c.args.store.now c.args.disk.now c.refused.result c.in_memory.result c.of_text.result c.of_text.ensures c.in_memory.ensures

pub returns-in-Ok-Says-clause-works : goal.returns-in-Ok-Says-clause-works
returns-in-Ok-Says-clause-works g c =
    let read : IsReading c.args.text.now (Reading.Says c.in-Ok-Says.statement) = rw c.in-Ok-Says.field-0-is at c.in-Ok-Says.ensures in
    text_works g.D.Disk c.args.store.now c.run.new.store c.args.disk.now c.args.text.now c.in-Ok-Says.statement c.run.result c.one_reading.ensures read.0 c.run.ensures.works

pub returns-in-Ok-Wrong-clause-works : goal.returns-in-Ok-Wrong-clause-works
returns-in-Ok-Wrong-clause-works g c =
    wrong_idle g.D.Disk c.args.store.now c.args.disk.now c.refused.result c.in_memory.result c.of_text.result (Refusal.Syntax c.in-Ok-Wrong.place) (WorksOf c.args.text.now c.args.store.now c.args.store.now)
    c.of_text.ensures c.in_memory.ensures c.refused.ensures
