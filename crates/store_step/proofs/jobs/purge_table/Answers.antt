use Rattle.std.proofs.Common.{subst, sym, rules}
use Rattle.std.specs.Prelude.{codes, Result}
use Rattle.col_disk.specs.declared.disk.StoreFault.{StoreFault}
use Rattle.sql_tree.specs.declared.refusal.Refusal.{Refusal}
use Rattle.store_step.specs.declared.answer.Answer.{Answer}
use Rattle.store_step.specs.Arms.{Answers}
use Rattle.store_step.specs.Texts.{Says}
use Rattle.store_step.proofs.Answered.{unmade}
use Rattle.store_step.proofs.Worked.{purged, purge_answers}
use Rattle.store_step.proofs.Doing.{stands_at}
use Rattle.store_step.proofs.Named.{jobs_named}
use Rattle.store_step.proofs.Works.{all_purged}
use Rattle.store_step.proofs.jobs.purge_table.Goals as goal

pub returns-in-Err-clause-answers : goal.returns-in-Err-clause-answers
returns-in-Err-clause-answers g c = λ files state here known. unmade g.D.Disk files (purged c.args.name.now) c.args.store.now c.args.disk.now state here (c.every_image_reopens.ensures c.args.store.now.seen.catalogue c.args.store.now.seen.stores c.args.disk.now state.database here.database)

pub returns-in-Err-refused-clause-answers : goal.returns-in-Err-refused-clause-answers
returns-in-Err-refused-clause-answers g c = λ files state here known. unmade g.D.Disk files (purged c.args.name.now) c.args.store.now c.args.disk.now state here (c.every_image_reopens.ensures c.args.store.now.seen.catalogue c.args.store.now.seen.stores c.args.disk.now state.database here.database)

pub returns-clause-answers : goal.returns-clause-answers
returns-clause-answers g c = λ files state here known.
    let says : Says (codes "PURGE\n") c.printed.result = search rules in
    subst (λ (r : Result Answer StoreFault). Answers g.D.Disk files (purged c.args.name.now) c.purge.new.self c.args.disk.now c.purge.new.disk r state) (sym c.in_moveout.ensures)
    (purge_answers g.D.Disk files c.args.name.now c.purge.new.self c.printed.result c.in-Ok-refused.stopped c.purge.result state known says c.in-Ok-refused.ensures (c.purge.ensures.jobs state c.args.name.now here (stands_at c.args.name.now c.args.store.now.seen.catalogue.tables c.args.place c.requires)))

pub returns-clause-named : goal.returns-clause-named
returns-clause-named g c = jobs_named g.D.Disk c.purge.new.self c.purge.new.disk c.printed.result c.in-Ok-refused.stopped c.purge.result c.in_moveout.result c.in_moveout.ensures c.purge.ensures.named

pub returns-clause-works : goal.returns-clause-works
returns-clause-works g c =
    all_purged g.D.Disk c.args.store.now c.purge.new.self c.args.disk.now c.args.name.now c.args.place c.printed.result c.in-Ok-refused.stopped Refusal.NumbersSpent c.purge.result c.in_moveout.result
    (stands_at c.args.name.now c.args.store.now.seen.catalogue.tables c.args.place c.requires) c.in_moveout.ensures c.in-Ok-refused.ensures c.purge.ensures.left
