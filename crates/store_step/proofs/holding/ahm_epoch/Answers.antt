use Rattle.std.proofs.Common.{rules}
use Rattle.std.specs.Prelude.{codes}
use Rattle.db_model.specs.Printing.{counted_line}
use Rattle.sql_tree.specs.declared.statement.Function.{Function}
use Rattle.sql_tree.specs.declared.statement.Statement.{Statement}
use Rattle.store_step.specs.Texts.{Says}
use Rattle.store_step.proofs.Answered.{short_holds}
use Rattle.store_step.proofs.Held.{ahm_holds}
use Rattle.store_step.proofs.holding.ahm_epoch.Goals as goal

pub returns-in-Ok : goal.returns-in-Ok
returns-in-Ok g c = λ files disk state here.
    let says : Says (counted_line (codes "AHM ") c.args.store.now.seen.catalogue.ahm) c.printed.result = search rules in
    ahm_holds g.D.Disk files c.args.store.now disk c.printed.result state says here

pub returns-in-Err : goal.returns-in-Err
returns-in-Err g c = λ files disk state here. short_holds g.D.Disk files (Statement.Call Function.Ahm) c.args.store.now disk _ state here
