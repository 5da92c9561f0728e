use Rattle.std.proofs.Common.{rules}
use Rattle.std.specs.Prelude.{codes}
use Rattle.catalog_types.specs.Reached.{least_lge}
use Rattle.db_model.specs.Printing.{counted_line}
use Rattle.sql_tree.specs.declared.statement.Function.{Function}
use Rattle.sql_tree.specs.declared.statement.Statement.{Statement}
use Rattle.store_step.specs.Texts.{Says}
use Rattle.store_step.proofs.Answered.{short_holds}
use Rattle.store_step.proofs.Held.{lge_holds}
use Rattle.store_step.proofs.holding.last_good_epoch.Goals as goal

pub returns-in-Ok : goal.returns-in-Ok
returns-in-Ok g c = λ files disk state here.
    let says : Says (counted_line (codes "LGE ") (least_lge c.args.store.now.seen.catalogue)) c.printed.result = search rules in
    lge_holds g.D.Disk files c.args.store.now disk c.printed.result state says (c.last_good_is_reached.ensures here.database.files c.args.store.now.seen.catalogue c.args.store.now.seen.stores state.database here.database.are) here

pub returns-in-Err : goal.returns-in-Err
returns-in-Err g c = λ files disk state here. short_holds g.D.Disk files (Statement.Call Function.Lge) c.args.store.now disk _ state here
