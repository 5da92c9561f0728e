use Rattle.std.proofs.Common.{subst, sym, rules}
use Rattle.std.specs.Prelude.{codes, Result}
use Rattle.col_disk.specs.declared.disk.StoreFault.{StoreFault}
use Rattle.sql_tree.specs.declared.refusal.Refusal.{Refusal}
use Rattle.store_step.specs.declared.answer.Answer.{Answer}
use Rattle.store_step.specs.Arms.{Answers}
use Rattle.store_step.specs.Texts.{Says}
use Rattle.store_step.proofs.Answered.{unmade}
use Rattle.store_step.proofs.Worked.{merged, mergeout_answers}
use Rattle.store_step.proofs.Named.{jobs_named}
use Rattle.store_step.specs.Works.{Works}
use Rattle.store_step.proofs.Works.{all_merged}
use Rattle.store_step.proofs.jobs.mergeout.Goals as goal

pub returns-in-Err-clause-answers : goal.returns-in-Err-clause-answers
returns-in-Err-clause-answers g c = λ files state here. unmade g.D.Disk files merged c.args.store.now c.args.disk.now state here (c.every_image_reopens.ensures c.args.store.now.seen.catalogue c.args.store.now.seen.stores c.args.disk.now state.database here.database)

pub returns-in-Err-refused-clause-answers : goal.returns-in-Err-refused-clause-answers
returns-in-Err-refused-clause-answers g c = λ files state here. unmade g.D.Disk files merged c.args.store.now c.args.disk.now state here (c.every_image_reopens.ensures c.args.store.now.seen.catalogue c.args.store.now.seen.stores c.args.disk.now state.database here.database)

pub returns-clause-answers : goal.returns-clause-answers
returns-clause-answers g c = λ files state here.
    let says : Says (codes "MERGEOUT\n") c.printed.result = search rules in
    subst (λ (r : Result Answer StoreFault). Answers g.D.Disk files merged c.merge_all.new.self c.args.disk.now c.merge_all.new.disk r state) (sym c.in_moveout.ensures)
    (mergeout_answers g.D.Disk files c.merge_all.new.self c.printed.result c.in-Ok-refused.stopped c.merge_all.result state says c.in-Ok-refused.ensures (c.merge_all.ensures.jobs state here))

pub returns-clause-named : goal.returns-clause-named
returns-clause-named g c = jobs_named g.D.Disk c.merge_all.new.self c.merge_all.new.disk c.printed.result c.in-Ok-refused.stopped c.merge_all.result c.in_moveout.result c.in_moveout.ensures c.merge_all.ensures.named

pub returns-clause-works : goal.returns-clause-works
returns-clause-works g c =
    all_merged g.D.Disk c.args.store.now c.args.disk.now c.printed.result c.in-Ok-refused.stopped Refusal.NumbersSpent c.merge_all.result c.in_moveout.result (Works merged c.args.store.now c.merge_all.new.self)
    c.in_moveout.ensures c.in-Ok-refused.ensures c.merge_all.ensures.left
