use Rattle.std.proofs.Common.{sym, subst, arith}
use Rattle.std.specs.Prelude.{IfErr, OnOk}
use Rattle.std.proofs.lemmas.Result.{IfErr-weaker}
use Rattle.col_disk.specs.declared.disk.StoreFault.TheVariants.{Memory}
use Rattle.store_commit.specs.Seen.{Stands}
use Rattle.table_jobs.specs.Blamed.{BlamesMerge}
use Rattle.table_jobs.specs.Jobs.{DrawsMerged, OfProjection}
use Rattle.store_core.specs.Running.{Running, running}
use Rattle.store_core.proofs.Raising.{on_merged, rise_does}
use Rattle.store_core.proofs.Named.{still_named}
use Rattle.store_core.proofs.store.Store.merge_one.Goals as goal

pub returns-clause-does : goal.returns-clause-does
returns-clause-does g c = λ state here.
    let i = c.args.next.at.table in
    let j = c.args.next.at.place in
    rise_does g.D.Disk Memory c.self.inside.tables c.merge.new.store c.self.inside.txns c.self.inside.current c.self.inside.mover c.drop_work.new.self c.args.self.now i j 0 c.merge.result state c.self.view_is here c.drop_work.ensures (omega arith) c.merge.ensures.made
    (on_merged c.merge.result i j c.self.inside.tables.catalogue c.merge.new.store.catalogue c.merge.ensures.drawn)

pub returns-clause-drawn : goal.returns-clause-drawn
returns-clause-drawn g c =
    let i = c.args.next.at.table in
    let j = c.args.next.at.place in
    subst (λ (r : Running). OnOk c.merge.result (OfProjection i j r.seen.catalogue (DrawsMerged i j r.seen.catalogue c.merge.new.store.catalogue))) c.self.view_is c.merge.ensures.drawn

pub returns-clause-unblamed : goal.returns-clause-unblamed
returns-clause-unblamed g c =
    IfErr-weaker c.merge.result _ _ (λ fault none state here. none state.database (subst (λ (r : Running). Stands g.D.Disk r.seen c.args.disk.now state.database) (sym c.self.view_is) here.database)) c.merge.ensures.unblamed

pub returns-clause-blamed : goal.returns-clause-blamed
returns-clause-blamed g c =
    let i = c.args.next.at.table in
    let j = c.args.next.at.place in
    subst (λ (r : Running). IfErr c.merge.result (λ fault. OfProjection i j r.seen.catalogue (BlamesMerge (g.D.Disk.holds c.args.disk.now) fault))) c.self.view_is c.merge.ensures.blamed

pub returns-clause-named : goal.returns-clause-named
returns-clause-named g c =
    still_named g.D.Disk c.self.inside.tables (running c.merge.new.store c.self.inside.txns c.self.inside.current c.drop_work.new.self) c.merge.new.disk c.merge.result c.merge.ensures.named c.merge.ensures.same
