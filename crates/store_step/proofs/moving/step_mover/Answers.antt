use Rattle.std.proofs.Common.{[], subst, sym, rules}
use Rattle.std.specs.Prelude.{Result}
use Rattle.col_disk.specs.declared.disk.StoreFault.{StoreFault}
use Rattle.sql_tree.specs.declared.statement.Statement.{Statement}
use Rattle.store_step.specs.declared.answer.Answer.{Answer}
use Rattle.store_step.specs.Arms.{Answers}
use Rattle.store_step.specs.Texts.{Says}
use Rattle.store_step.proofs.Moved.{step_answers}
use Rattle.store_step.proofs.Named.{store_named}
use Rattle.store_step.proofs.moving.step_mover.Goals as goal

pub returns-clause-answers : goal.returns-clause-answers
returns-clause-answers g c = λ files state here.
    let says : Says [] c.printed.result = search rules in
    subst (λ (r : Result Answer StoreFault). Answers g.D.Disk files Statement.Step c.mover_step.new.store c.args.disk.now c.mover_step.new.disk r state) (sym c.in_store.ensures)
    (step_answers g.D.Disk files c.mover_step.new.store c.printed.result c.mover_step.result state says (c.mover_step.ensures.moves state here))

pub returns-clause-named : goal.returns-clause-named
returns-clause-named g c = store_named g.D.Disk c.mover_step.new.store c.mover_step.new.disk c.printed.result c.mover_step.result c.in_store.result c.in_store.ensures c.mover_step.ensures.named
