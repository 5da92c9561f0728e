use Rattle.std.proofs.Common.{sym, subst, arith}
use Rattle.std.proofs.lemmas.Result.{IfErr-weaker}
use Rattle.col_disk.specs.declared.disk.StoreFault.TheVariants.{Memory}
use Rattle.store_commit.specs.Seen.{Stands}
use Rattle.store_core.specs.Running.{Running}
use Rattle.store_core.proofs.Raising.{on_merged, rise_does}
use Rattle.store_core.proofs.store.Store.merge_written.Goals as goal

pub returns-clause-does : goal.returns-clause-does
returns-clause-does g c = λ state here has.
    let i = c.args.work.now.table in
    let j = c.args.work.now.place in
    rise_does g.D.Disk Memory c.self.inside.tables c.finish_merge.new.store c.self.inside.txns c.self.inside.current c.self.inside.mover c.drop_work.new.self c.args.self.now i j 0 c.finish_merge.result state c.self.view_is here c.drop_work.ensures
    (omega arith) (λ d stands. c.finish_merge.ensures.made d stands has) (on_merged c.finish_merge.result i j c.self.inside.tables.catalogue c.finish_merge.new.store.catalogue c.finish_merge.ensures.drawn)

pub returns-clause-unblamed : goal.returns-clause-unblamed
returns-clause-unblamed g c =
    IfErr-weaker c.finish_merge.result _ _
    (λ fault none state here has. none state.database (subst (λ (r : Running). Stands g.D.Disk r.seen c.args.disk.now state.database) (sym c.self.view_is) here.database) has) c.finish_merge.ensures.unblamed
