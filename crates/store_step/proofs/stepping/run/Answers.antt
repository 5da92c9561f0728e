use Rattle.std.proofs.Common.{refl, rules, subst, sym}
use Rattle.std.specs.Prelude.{Result}
use Rattle.sql_words.specs.Symbols.{symbols_of}
use Rattle.sql_tree.specs.declared.statement.Statement.{Statement}
use Rattle.sql_tree.specs.Spells.{Spells}
use Rattle.store_step.specs.declared.answer.Answer.{Answer}
use Rattle.store_step.specs.declared.answer.StepFault.{StepFault}
use Rattle.store_step.specs.Steps.{Steps}
use Rattle.store_step.proofs.Stepped.{steps_of}
use Rattle.store_step.proofs.Named.{text_named}
use Rattle.store_step.specs.Works.{Works}
use Rattle.store_step.proofs.Works.{no_work, text_done}
use Rattle.store_step.proofs.stepping.run.Goals as goal

pub returns-in-Copy-clause-steps : goal.returns-in-Copy-clause-steps
returns-in-Copy-clause-steps g c = λ text there state spelled told here.
    let copied : Spells (symbols_of text) (Statement.Copy c.in-Copy.table c.in-Copy.file) = rw c.in-Copy.is at spelled in
    c.copy.ensures.steps text there state copied told here

pub returns-in_default : goal.returns-in_default
returns-in_default g c = record {
  steps = λ text there state spelled told here.
      subst (λ (o : Result Answer StepFault). Steps g.D.Disk there text c.answer.new.store c.args.disk.now c.answer.new.disk o state) (sym c.of_text.ensures)
      (steps_of g.D.Disk there text c.args.statement c.answer.new.store c.answer.result state spelled (c.answer.ensures.answers there state here));
  works = text_done g.D.Disk c.args.store.now c.args.disk.now c.answer.result c.of_text.result (Works c.args.statement c.args.store.now c.answer.new.store) c.of_text.ensures c.answer.ensures.works;
  named = text_named g.D.Disk c.answer.new.store c.answer.new.disk c.answer.result c.of_text.result c.of_text.ensures c.answer.ensures.named;
  content = refl;
  read = search rules;
  cause = search rules;
}

pub returns-in-Copy-clause-works : goal.returns-in-Copy-clause-works
returns-in-Copy-clause-works g c = no_work g.D.Disk c.args.store.now c.copy.new.store c.args.disk.now c.args.statement (Statement.Copy c.in-Copy.table c.in-Copy.file) c.copy.result c.in-Copy.is tt
