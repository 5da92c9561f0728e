use Rattle.std.proofs.Common.{subst}
use Rattle.std.specs.Prelude.{IfErr}
use Rattle.std.proofs.lemmas.Result.{IfOk-weaker, IfErr-weaker, on_ok_weaker}
use Rattle.store_query.specs.Faults.{BlamesRead}
use Rattle.store_core.specs.Running.{Running, running}
use Rattle.store_core.proofs.Asking.{can_read, rows_same, listed_so, too_great, not_too_great}
use Rattle.store_core.proofs.Events.{viewed}
use Rattle.store_core.proofs.Named.{read_named}
use Rattle.store_core.proofs.store.Store.select.Goals as goal

pub returns-clause-listed : goal.returns-clause-listed
returns-clause-listed g c = IfOk-weaker c.select.result _ _ (λ v printed state q here asked.
    let r = running c.self.inside.tables c.self.inside.txns c.self.inside.current c.self.inside.mover in
    let own = viewed g.D.Disk c.args.disk.now r c.args.self.now state c.self.view_is here in
    let law = c.bound_queries_read_their_tables.ensures in
    listed_so state c.args.at q c.args.query.now _ _ asked.tree (rows_same g.D.Disk r c.args.disk.now state c.args.at q c.args.query.now c.session.result.now c.session.ensures (law.rows c.args.at state q) own asked)
    (printed state.database (can_read g.D.Disk r c.args.disk.now state c.args.at q c.args.query.now c.session.result.now c.session.ensures (law.over state q) own asked))) c.select.ensures.printed

pub returns-clause-in_range : goal.returns-clause-in_range
returns-clause-in_range g c = on_ok_weaker c.select.result (λ within state q here asked.
    let r = running c.self.inside.tables c.self.inside.txns c.self.inside.current c.self.inside.mover in
    let own = viewed g.D.Disk c.args.disk.now r c.args.self.now state c.self.view_is here in
    let law = c.bound_queries_read_their_tables.ensures in
    not_too_great state c.args.at q c.args.query.now _ asked.tree (rows_same g.D.Disk r c.args.disk.now state c.args.at q c.args.query.now c.session.result.now c.session.ensures (law.rows c.args.at state q) own asked)
    (within state.database (can_read g.D.Disk r c.args.disk.now state c.args.at q c.args.query.now c.session.result.now c.session.ensures (law.over state q) own asked))) c.select.ensures.in_range

pub returns-clause-great : goal.returns-clause-great
returns-clause-great g c = λ is state q here asked.
    let r = running c.self.inside.tables c.self.inside.txns c.self.inside.current c.self.inside.mover in
    let own = viewed g.D.Disk c.args.disk.now r c.args.self.now state c.self.view_is here in
    let law = c.bound_queries_read_their_tables.ensures in
    too_great state c.args.at q c.args.query.now _ asked.tree (rows_same g.D.Disk r c.args.disk.now state c.args.at q c.args.query.now c.session.result.now c.session.ensures (law.rows c.args.at state q) own asked)
    (c.select.ensures.great is state.database (can_read g.D.Disk r c.args.disk.now state c.args.at q c.args.query.now c.session.result.now c.session.ensures (law.over state q) own asked))

pub returns-clause-unblamed : goal.returns-clause-unblamed
returns-clause-unblamed g c = IfErr-weaker c.select.result _ _ (λ fault none state q here asked.
    let r = running c.self.inside.tables c.self.inside.txns c.self.inside.current c.self.inside.mover in
    let own = viewed g.D.Disk c.args.disk.now r c.args.self.now state c.self.view_is here in
    none state.database (can_read g.D.Disk r c.args.disk.now state c.args.at q c.args.query.now c.session.result.now c.session.ensures (c.bound_queries_read_their_tables.ensures.over state q) own asked)) c.select.ensures.unblamed

pub returns-clause-blamed : goal.returns-clause-blamed
returns-clause-blamed g c = subst (λ (r : Running). IfErr c.select.result (BlamesRead r.seen.stores (g.D.Disk.holds c.args.disk.now))) c.self.view_is c.select.ensures.blamed

pub returns-clause-named : goal.returns-clause-named
returns-clause-named g c =
    IfErr-weaker c.select.result _ _ (λ fault blames. read_named g.D.Disk c.args.self.now c.args.disk.now c.select.new.disk fault c.select.ensures.kept blames)
    (subst (λ (r : Running). IfErr c.select.result (BlamesRead r.seen.stores (g.D.Disk.holds c.args.disk.now))) c.self.view_is c.select.ensures.blamed)
