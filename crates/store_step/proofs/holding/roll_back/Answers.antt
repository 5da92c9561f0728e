use Rattle.std.proofs.Common.{rules}
use Rattle.std.specs.Prelude.{codes}
use Rattle.sql_tree.specs.declared.statement.Statement.{Statement}
use Rattle.store_step.specs.Texts.{Says}
use Rattle.store_step.proofs.Answered.{short_holds, viewed_holds}
use Rattle.store_step.proofs.Held.{rollback_holds}
use Rattle.store_step.proofs.holding.roll_back.Goals as goal

pub returns : goal.returns
returns g c = λ files disk state here.
    let says : Says (codes "ROLLBACK\n") c.printed.result = search rules in
    viewed_holds g.D.Disk files Statement.Rollback _ _ disk _ state c.roll_back.ensures
    (rollback_holds g.D.Disk files c.args.store.now disk c.printed.result state says (c.rollbacks_stand.ensures disk c.args.store.now state here))

pub returns-in-Err : goal.returns-in-Err
returns-in-Err g c = λ files disk state here. short_holds g.D.Disk files Statement.Rollback c.args.store.now disk _ state here
