use Rattle.std.proofs.Common.{[], rules}
use Rattle.sql_tree.specs.declared.statement.Statement.{Statement}
use Rattle.store_step.specs.Texts.{Says}
use Rattle.store_step.proofs.Answered.{viewed_holds}
use Rattle.store_step.proofs.Held.{session_holds}
use Rattle.store_step.proofs.holding.use_session.Goals as goal

pub returns : goal.returns
returns g c = λ files disk state here.
    let says : Says [] c.printed.result = search rules in
    viewed_holds g.D.Disk files (Statement.Session c.args.session) _ _ disk _ state c.use_session.ensures
    (session_holds g.D.Disk files c.args.session c.args.store.now disk c.printed.result state says (c.sessions_stand.ensures disk c.args.store.now state c.args.session c.requires.first c.requires.last here))
