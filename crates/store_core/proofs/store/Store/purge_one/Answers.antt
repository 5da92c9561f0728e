use Rattle.std.proofs.Common.{◌≡◌, sym, subst, arith}
use Rattle.std.specs.Prelude.{IfErr, OnOk}
use Rattle.std.proofs.lemmas.Result.{IfErr-weaker, on_ok_weaker}
use Rattle.col_disk.specs.declared.disk.StoreFault.TheVariants.{Memory}
use Rattle.store_commit.specs.Seen.{Stands}
use Rattle.table_jobs.specs.Blamed.{BlamesPurge}
use Rattle.table_jobs.specs.Jobs.{DrawsAnew, OfProjection}
use Rattle.table_jobs.specs.Purged.{OthersStay}
use Rattle.store_core.specs.Running.{Running, running}
use Rattle.store_core.proofs.Raising.{rise_does}
use Rattle.store_core.proofs.Named.{still_named}
use Rattle.store_core.proofs.store.Store.purge_one.Goals as goal

pub returns-clause-does : goal.returns-clause-does
returns-clause-does g c = λ state here.
    let i = c.args.table in
    let j = c.args.place in
    rise_does g.D.Disk Memory c.self.inside.tables c.purge.new.store c.self.inside.txns c.self.inside.current c.self.inside.mover c.drop_work.new.self c.args.self.now i j 1 c.purge.result state c.self.view_is here c.drop_work.ensures (omega arith) c.purge.ensures.made
    c.purge.ensures.drawn

pub returns-clause-drawn : goal.returns-clause-drawn
returns-clause-drawn g c =
    let i = c.args.table in
    let j = c.args.place in
    subst (λ (r : Running). OnOk c.purge.result (OfProjection i j r.seen.catalogue (DrawsAnew i j 1 r.seen.catalogue c.purge.new.store.catalogue))) c.self.view_is c.purge.ensures.drawn

pub returns-clause-unblamed : goal.returns-clause-unblamed
returns-clause-unblamed g c =
    IfErr-weaker c.purge.result _ _ (λ fault none state here. none state.database (subst (λ (r : Running). Stands g.D.Disk r.seen c.args.disk.now state.database) (sym c.self.view_is) here.database)) c.purge.ensures.unblamed

pub returns-clause-blamed : goal.returns-clause-blamed
returns-clause-blamed g c =
    let i = c.args.table in
    let j = c.args.place in
    subst (λ (r : Running). IfErr c.purge.result (λ fault. OfProjection i j r.seen.catalogue (BlamesPurge (g.D.Disk.holds c.args.disk.now) fault))) c.self.view_is c.purge.ensures.blamed

pub returns-clause-named : goal.returns-clause-named
returns-clause-named g c =
    still_named g.D.Disk c.self.inside.tables (running c.purge.new.store c.self.inside.txns c.self.inside.current c.drop_work.new.self) c.purge.new.disk c.purge.result c.purge.ensures.named c.purge.ensures.same

pub returns-clause-whole : goal.returns-clause-whole
returns-clause-whole g c =
    on_ok_weaker c.purge.result (λ whole state here. whole state.database (subst (λ (r : Running). Stands g.D.Disk r.seen c.args.disk.now state.database) (sym c.self.view_is) here.database)) c.purge.ensures.whole

pub returns-clause-others : goal.returns-clause-others
returns-clause-others g c =
    subst (λ (r : Running). OnOk c.purge.result (OthersStay c.args.table c.args.place r.seen.stores c.purge.new.store.stores)) c.self.view_is c.purge.ensures.others

pub returns-clause-mark : goal.returns-clause-mark
returns-clause-mark g c = subst (λ (r : Running). OnOk c.purge.result (c.purge.new.store.catalogue.ahm ≡ r.seen.catalogue.ahm)) c.self.view_is c.purge.ensures.mark
