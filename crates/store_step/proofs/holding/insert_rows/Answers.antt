use Rattle.std.proofs.Common.{◌≡◌, length, rules}
use Rattle.db_model.specs.Answers.{insert_line}
use Rattle.sql_binding.specs.Inserts.{inserted_rows}
use Rattle.sql_tree.specs.declared.statement.Statement.{Statement}
use Rattle.store_core.specs.Sessions.{with_pending}
use Rattle.store_step.specs.Texts.{Says}
use Rattle.store_step.proofs.Answered.{short_holds, viewed_holds}
use Rattle.store_step.proofs.Held.{insert_holds}
use Rattle.store_step.proofs.holding.insert_rows.Goals as goal

pub returns-in-Ok-insert : goal.returns-in-Ok-insert
returns-in-Ok-insert g c = λ files disk state here are accepted.
    let i = c.args.insert.now in
    let says : Says (insert_line (length i.rows)) c.printed.result = search rules in
    let same : c.insert.new.self ≡ with_pending i.table c.args.rows.items c.args.store.now = search rules in
    viewed_holds g.D.Disk files (Statement.Insert c.args.insert.now) _ _ disk _ state same
    (insert_holds g.D.Disk files c.args.insert.now c.args.store.now disk c.printed.result state c.args.rows.items says are c.requires accepted (λ columns. c.inserted_rows_fit.ensures columns i)
    (λ t named fit free. c.pending_rows_stand.ensures disk c.args.store.now state i.table (inserted_rows i) t here named fit free))

pub returns-in-Err-insert : goal.returns-in-Err-insert
returns-in-Err-insert g c = λ files disk state here are accepted. viewed_holds g.D.Disk files (Statement.Insert c.args.insert.now) _ _ disk _ state c.in-Err-insert.ensures.kept (short_holds g.D.Disk files (Statement.Insert c.args.insert.now) c.args.store.now disk _ state here)

pub returns-in-Err : goal.returns-in-Err
returns-in-Err g c = λ files disk state here are accepted. short_holds g.D.Disk files (Statement.Insert c.args.insert.now) c.args.store.now disk _ state here
