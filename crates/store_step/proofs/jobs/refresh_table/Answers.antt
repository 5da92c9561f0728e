use Rattle.std.proofs.Common.{subst, sym, rules}
use Rattle.std.specs.Prelude.{codes, Result}
use Rattle.col_disk.specs.declared.disk.StoreFault.{StoreFault}
use Rattle.store_step.specs.declared.answer.Answer.{Answer}
use Rattle.store_step.specs.Arms.{Answers}
use Rattle.store_step.specs.Texts.{Says}
use Rattle.store_step.proofs.Answered.{unmade}
use Rattle.store_step.proofs.Worked.{refreshed, refresh_answers}
use Rattle.store_step.proofs.Doing.{stands_at}
use Rattle.store_step.proofs.Named.{jobs_named}
use Rattle.store_step.proofs.jobs.refresh_table.Goals as goal

pub returns-in-Err-clause-answers : goal.returns-in-Err-clause-answers
returns-in-Err-clause-answers g c = λ files state here known. unmade g.D.Disk files (refreshed c.args.name.now) c.args.store.now c.args.disk.now state here (c.every_image_reopens.ensures c.args.store.now.seen.catalogue c.args.store.now.seen.stores c.args.disk.now state.database here.database)

pub returns-in-Err-refused-clause-answers : goal.returns-in-Err-refused-clause-answers
returns-in-Err-refused-clause-answers g c = λ files state here known. unmade g.D.Disk files (refreshed c.args.name.now) c.args.store.now c.args.disk.now state here (c.every_image_reopens.ensures c.args.store.now.seen.catalogue c.args.store.now.seen.stores c.args.disk.now state.database here.database)

pub returns-clause-answers : goal.returns-clause-answers
returns-clause-answers g c = λ files state here known.
    let says : Says (codes "REFRESH\n") c.printed.result = search rules in
    subst (λ (r : Result Answer StoreFault). Answers g.D.Disk files (refreshed c.args.name.now) c.refresh.new.self c.args.disk.now c.refresh.new.disk r state) (sym c.in_moveout.ensures)
    (refresh_answers g.D.Disk files c.args.name.now c.refresh.new.self c.printed.result c.in-Ok-refused.stopped c.refresh.result state known says c.in-Ok-refused.ensures (c.refresh.ensures.jobs state c.args.name.now here (stands_at c.args.name.now c.args.store.now.seen.catalogue.tables c.args.place c.requires)))

pub returns-clause-named : goal.returns-clause-named
returns-clause-named g c = jobs_named g.D.Disk c.refresh.new.self c.refresh.new.disk c.printed.result c.in-Ok-refused.stopped c.refresh.result c.in_moveout.result c.in_moveout.ensures c.refresh.ensures.named
