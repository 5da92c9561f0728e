use Rattle.std.proofs.Common.{◌≡◌, rules}
use Rattle.std.specs.Prelude.{codes}
use Rattle.sql_tree.specs.declared.statement.Function.{Function}
use Rattle.sql_tree.specs.declared.statement.Statement.{Statement}
use Rattle.store_core.specs.Stepping.{all_stale, with_asked}
use Rattle.store_step.specs.Texts.{Says}
use Rattle.store_step.proofs.Answered.{short_holds, viewed_holds}
use Rattle.store_step.proofs.Held.{start_holds}
use Rattle.store_step.proofs.holding.start_refresh.Goals as goal

pub returns-in-Ok-start_refresh : goal.returns-in-Ok-start_refresh
returns-in-Ok-start_refresh g c = λ files disk state here.
    let says : Says (codes "START REFRESH\n") c.printed.result = search rules in
    let same : c.start_refresh.new.self ≡ with_asked (all_stale c.args.store.now.seen.catalogue.tables) c.args.store.now = search rules in
    viewed_holds g.D.Disk files (Statement.Call Function.StartRefresh) _ _ disk _ state same
    (start_holds g.D.Disk files c.args.store.now disk c.printed.result state says (c.refreshes_may_be_asked_for.ensures disk c.args.store.now state here))

pub returns-in-Err-start_refresh : goal.returns-in-Err-start_refresh
returns-in-Err-start_refresh g c = λ files disk state here.
    viewed_holds g.D.Disk files (Statement.Call Function.StartRefresh) _ _ disk _ state c.in-Err-start_refresh.ensures.kept (short_holds g.D.Disk files (Statement.Call Function.StartRefresh) c.args.store.now disk _ state here)

pub returns-in-Err : goal.returns-in-Err
returns-in-Err g c = λ files disk state here. short_holds g.D.Disk files (Statement.Call Function.StartRefresh) c.args.store.now disk _ state here
